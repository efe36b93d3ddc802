use Rattle.std.proofs.Common.{subst, sym, ◌∙◌}
use Rattle.kdb_disk.specs.Memory.{contents, IsKept}
use Rattle.kdb_disk.proofs.Kept.{kept_first}
use Rattle.kdb_disk.proofs.Picks.{first_seen, first_settled, first_moment}
use Rattle.kdb_disk.proofs.memory.MemoryDisk.new.Goals as goal

pub invariant_of-result : goal.invariant_of-result
invariant_of-result c =
    let start = c.in_ok-start.start.items in
    let files = c.in_ok-files.files.items in
    record {
      kept = subst (IsKept start files) (sym c.new.ensures.items)
          (kept_first files start c.in_ok-start.ensures.seven c.in_ok-files.ensures.seven
          (λ f. c.in_ok-files.ensures.empty f ∙ sym (c.in_ok-start.ensures.empty f)));
    }

pub returns-clause-empty : goal.returns-clause-empty
returns-clause-empty c f = first_seen (contents c.in_ok-start.start.items) c.new.result.items f c.new.ensures.items
    ∙ c.in_ok-start.ensures.empty f

pub returns-clause-settled : goal.returns-clause-settled
returns-clause-settled c = first_settled (contents c.in_ok-start.start.items) c.new.result.items c.new.ensures.items

pub returns-clause-calls : goal.returns-clause-calls
returns-clause-calls c = first_moment (contents c.in_ok-start.start.items) c.new.result.items c.new.ensures.items
