use Rattle.std.proofs.Common.{◌∙◌, ap}
use Rattle.kdb_control.specs.Force.{in_force}
use Rattle.kdb_control.proofs.Places.{force_front}
use Rattle.kdb_control.proofs.front.find.Goals as goal

pub returns-in-Ok-clause-force : goal.returns-in-Ok-clause-force
returns-in-Ok-clause-force g c tells = c.in_force.ensures ∙ ap in_force (c.in-Ok.ensures.bytes tells)
    ∙ force_front ((g.D.Disk.view c.args.disk.now).seen 0)
