use Rattle.std.proofs.Common.{subst, sym, ◌∙◌}
use Rattle.kdb_disk.specs.Memory.{contents, IsKept}
use Rattle.kdb_disk.proofs.Kept.{kept_first}
use Rattle.kdb_disk.proofs.Picks.{first_seen, first_settled, first_moment}
use Rattle.kdb_disk.proofs.memory.MemoryDisk.holding.Goals as goal

pub invariant_of-result : goal.invariant_of-result
invariant_of-result c =
    let start = c.in_ok-start.start.items in
    let files = c.args.files.items in
    record {
      kept = subst (IsKept start files) (sym c.new.ensures.items)
          (kept_first files start (c.in_ok-start.ensures.long ∙ c.requires) c.requires
          (λ f. sym (c.in_ok-start.ensures.same f)));
    }

pub returns-clause-seen : goal.returns-clause-seen
returns-clause-seen c f = first_seen (contents c.in_ok-start.start.items) c.new.result.items f c.new.ensures.items
    ∙ c.in_ok-start.ensures.same f

pub returns-clause-settled : goal.returns-clause-settled
returns-clause-settled c = first_settled (contents c.in_ok-start.start.items) c.new.result.items c.new.ensures.items

pub returns-clause-calls : goal.returns-clause-calls
returns-clause-calls c = first_moment (contents c.in_ok-start.start.items) c.new.result.items c.new.ensures.items
