use Rattle.kdb_model.specs.Asking.{state_in}
use Rattle.kdb_model.proofs.Enough.{version_in}
use Rattle.kdb_model.proofs.refusals.no_active_master.Goals as goal

pub used_activations-requires : goal.used_activations-requires
used_activations-requires c = version_in (state_in c.args.asked.now).realm c.args.asked.now.command.now c.in-UseMaster.c
    c.in-UseMaster.is c.requires
