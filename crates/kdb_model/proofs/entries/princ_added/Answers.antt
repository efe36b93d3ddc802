use Rattle.kdb_model.specs.Asking.{state_in}
use Rattle.kdb_model.proofs.Enough.{add_enough}
use Rattle.kdb_model.proofs.entries.princ_added.Goals as goal

pub added-requires : goal.added-requires
added-requires c = add_enough (state_in c.args.asked.now).realm c.args.c.now c.args.asked.now.random.now
    c.requires.command c.requires.random
