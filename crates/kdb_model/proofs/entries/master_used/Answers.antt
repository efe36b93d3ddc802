use Rattle.kdb_model.specs.Asking.{state_in}
use Rattle.kdb_model.proofs.Enough.{version_set}
use Rattle.kdb_model.proofs.entries.master_used.Goals as goal

pub used_master-requires : goal.used_master-requires
used_master-requires c = version_set (state_in c.args.asked.now).realm c.args.c.now c.requires.command
