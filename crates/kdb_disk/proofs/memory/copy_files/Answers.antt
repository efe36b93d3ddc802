use Rattle.std.proofs.Common.{◌≡◌, ◌+◌, ◌∙◌, ℕ, List, Vec, length, get_or, ap, sym, ⊎_elim, arith, rules}
use Rattle.std.specs.declared.alloc.Global.{Global}
use Rattle.std.proofs.lemmas.Bool.{cases_lt}
use Rattle.std.proofs.lemmas.List.{length_push}
use Rattle.kdb_disk.specs.Memory.{contents}
use Rattle.kdb_disk.proofs.Kept.{each_file_more, contents_past, contents_at}
use Rattle.kdb_disk.proofs.memory.copy_files.Goals as goal

pub loop-file-preserved : goal.loop-file-preserved
loop-file-preserved c =
    let files = c.args.files.now.items in
    let before = c.loop-file.copy.items in
    let n = c.loop-file.file-index in
    let v = c.in_ok-to_vec.field-0 in
    let copied : v.items ≡ c.file-item.result.items = search rules in
    let is = c.in_ok-push.ensures.items in
    let here = contents_at files n c.file-item.result (omega arith) (c.file-item.is
    ∙ ap (λ (l : List (Vec ℕ Global)). get_or l n c.file-item.result) c.deref-file-items.ensures.value) in
    record {
      long = ap length is ∙ length_push before v ∙ ap (λ (k : ℕ). k + 1) c.loop-file.invariant.long;
      same = each_file_more (λ f content. content ≡ contents files f) before c.push.new.self.items v n is
          c.loop-file.invariant.long c.loop-file.invariant.same (copied ∙ here);
    }

pub returns-clause-same : goal.returns-clause-same
returns-clause-same c f =
    let files = c.args.files.now.items in ⊎_elim
    (λ below. c.loop-file.invariant.same f (omega arith))
    (λ past. contents_past c.loop-file.copy.items f (omega arith) ∙ sym (contents_past files f past))
    (cases_lt f (length files))
