use Rattle.kdb_model.specs.Asking.{state_in}
use Rattle.kdb_model.proofs.Enough.{change_enough}
use Rattle.kdb_model.proofs.entries.princ_change.Goals as goal

pub rekeyed-requires : goal.rekeyed-requires
rekeyed-requires c = change_enough (state_in c.args.asked.now).realm c.args.asked.now.command.now c.in-ChangeKeys.c
    c.args.asked.now.random.now c.in-ChangeKeys.is c.requires.command c.requires.random
