use Rattle.kdb_model.specs.Asking.{state_in}
use Rattle.kdb_model.proofs.Enough.{change_enough}
use Rattle.kdb_model.proofs.refusals.pass_reused.Goals as goal

pub reuses-requires : goal.reuses-requires
reuses-requires c = change_enough (state_in c.args.asked.now).realm c.args.asked.now.command.now c.in-ChangeKeys.c
    c.args.asked.now.random.now c.in-ChangeKeys.is c.requires.command c.requires.random
