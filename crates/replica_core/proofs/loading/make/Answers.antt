use Rattle.std.proofs.Common.{◌≡◌, ℕ, List, [], ◌∷◌, Err, ap, subst, sym, ◌∙◌}
use Rattle.kdb_control.specs.Force.{in_force}
use Rattle.kdb_disk.specs.Moments.{LeavesOnly}
use Rattle.kdb_places.specs.Places.{created}
use Rattle.std.specs.Prelude.{None}
use Rattle.kdb_base.specs.declared.outcomes.Halt.TheVariants.{MemoryOut as IsMemoryOut}
use Rattle.replica_core.specs.Opened.{LeavesMade}
use Rattle.replica_core.proofs.Moments.{first_made, none_in_force, only_memory}
use Rattle.replica_core.proofs.loading.make.Goals as goal

pub returns-in-Ok-clause-crash : goal.returns-in-Ok-clause-crash
returns-in-Ok-clause-crash g c = record {
  told = λ tells. subst (λ (m : List ℕ). LeavesOnly (g.D.Disk.view c.args.disk.now) (g.D.Disk.view c.create.new.disk)
      (LeavesMade None (created m c.args.rows c.args.base c.args.size 2048 None 2 ∷ []))) c.as_slice.ensures.value
      (first_made (created c.as_slice.result.now c.args.rows c.args.base c.args.size 2048 None 2)
      (c.requires.none tells) (c.create.ensures.moments tells));
}

pub returns-in-Err-clause-crash : goal.returns-in-Err-clause-crash
returns-in-Err-clause-crash g c = record {
  told = λ tells. subst (λ (m : List ℕ). LeavesOnly (g.D.Disk.view c.args.disk.now) (g.D.Disk.view c.create.new.disk)
      (LeavesMade None (created m c.args.rows c.args.base c.args.size 2048 None 2 ∷ []))) c.as_slice.ensures.value
      (first_made (created c.as_slice.result.now c.args.rows c.args.base c.args.size 2048 None 2)
      (c.requires.none tells) (c.create.ensures.moments tells));
}

pub returns-in-Err-clause-memory : goal.returns-in-Err-clause-memory
returns-in-Err-clause-memory g c tells e =
    let now = g.D.Disk.view c.args.disk.now in
    let none = (c.requires.none tells).each now.seen (g.met.D.Disk.reads_as_image c.args.disk.now tells) in
    let halt : c.halt_of.result ≡ IsMemoryOut = cc in
    c.create.ensures.memory (c.in-Err.is ∙ ap Err (only_memory c.in-Err.stop (in_force (now.seen 0))
    (c.in-Err.ensures.answer tells) (none_in_force now.seen none) (sym c.halt_of.ensures.value ∙ halt)))
