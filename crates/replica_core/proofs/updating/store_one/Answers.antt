use Rattle.replica_core.specs.Taking.{one_updated}
use Rattle.replica_core.proofs.Moments.{nothing_leaves}
use Rattle.store_files.specs.Kept.{place_kept}
use Rattle.replica_core.proofs.updating.store_one.Goals as goal

pub returns-then-not-may_apply-clause-crash : goal.returns-then-not-may_apply-clause-crash
returns-then-not-may_apply-clause-crash g c =
    let p = place_kept c.args.database.now in
    record {
      told = λ tells.
          nothing_leaves c.args.database.now (one_updated p.size c.args.entry.now.op c.args.entry.now.point.time p)
          (g.D.Disk.view c.args.disk.now) (c.requires.on tells);
    }

pub returns-in-None-clause-crash : goal.returns-in-None-clause-crash
returns-in-None-clause-crash g c =
    let p = place_kept c.args.database.now in
    record {
      told = λ tells.
          nothing_leaves c.args.database.now (one_updated p.size c.args.entry.now.op c.args.entry.now.point.time p)
          (g.D.Disk.view c.args.disk.now) (c.requires.on tells);
    }
