use Rattle.std.proofs.Common.{◌≡◌, ◌+◌, ◌∙◌, ℕ, [], length, ap, ⊎_elim, arith}
use Rattle.std.proofs.lemmas.Bool.{cases_lt}
use Rattle.std.proofs.lemmas.List.{length_push}
use Rattle.kdb_disk.proofs.Kept.{each_file_more, contents_past}
use Rattle.kdb_disk.proofs.memory.empty_files.Goals as goal

pub loop-preserved : goal.loop-preserved
loop-preserved c =
    let before = c.loop.files.items in
    let is = c.in_ok-push.ensures.items in
    record {
      long = ap length is ∙ length_push before c.new.result ∙ ap (λ (n : ℕ). n + 1) c.loop.invariant.long;
      empty = each_file_more (λ f content. content ≡ []) before c.push.new.self.items c.new.result c.loop.counter is
          c.loop.invariant.long c.loop.invariant.empty c.new.ensures.items;
    }

pub returns-clause-empty : goal.returns-clause-empty
returns-clause-empty c f = ⊎_elim
    (λ below. c.loop.invariant.empty f (omega arith))
    (λ past. contents_past c.loop.files.items f (omega arith))
    (cases_lt f 7)
