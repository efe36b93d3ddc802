use Rattle.std.proofs.Common.{refl}
use Rattle.kadm_top.proofs.Running.{idle_run}
use Rattle.kadm_top.proofs.making.make.Goals as goal
use Rattle.kadm_top.specs.Openings.{create_of}
use Rattle.kdb_control.specs.Force.{in_force}
use Rattle.kdb_disk.proofs.Runs.{kept}

pub returns-in-Ok-clause-run : goal.returns-in-Ok-clause-run
returns-in-Ok-clause-run g c = λ told left draws drawn. c.make_printed.ensures.run told left draws drawn

pub returns-in-Err-clause-run : goal.returns-in-Err-clause-run
returns-in-Err-clause-run g c =
    λ told left draws drawn. idle_run (create_of c.args.spec.now (in_force ((g.D.Disk.view c.args.disk.now).seen 0))) _
    (kept (g.D.Disk.view c.args.disk.now)) refl
