use Rattle.replica_core.proofs.Moments.{nothing_leaves}
use Rattle.replica_steps.specs.Replicas.{reopened}
use Rattle.std.specs.Prelude.{Some}
use Rattle.store_files.specs.Kept.{place_kept}
use Rattle.replica_core.proofs.opening.renew.Goals as goal

pub returns-then-is_same-clause-crash : goal.returns-then-is_same-clause-crash
returns-then-is_same-clause-crash g c = record {
  told = λ tells. nothing_leaves c.args.database.now (reopened c.args.size (Some (place_kept c.args.database.now)))
      (g.D.Disk.view c.args.disk.now) (c.requires.on tells);
}
