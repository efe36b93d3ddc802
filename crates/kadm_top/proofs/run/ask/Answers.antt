use Rattle.std.proofs.Common.{refl}
use Rattle.kadm_top.proofs.Running.{idle_run}
use Rattle.kadm_top.proofs.run.ask.Goals as goal
use Rattle.kdb_disk.proofs.Runs.{kept}

pub returns-in-Err-clause-run : goal.returns-in-Err-clause-run
returns-in-Err-clause-run g c = λ tells o opens. idle_run o _ (kept (g.D.Disk.view c.args.disk.now)) refl
