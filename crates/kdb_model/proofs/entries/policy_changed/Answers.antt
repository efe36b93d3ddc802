use Rattle.kdb_model.specs.Asking.{state_in}
use Rattle.kdb_model.proofs.Enough.{policy_of}
use Rattle.kdb_model.proofs.entries.policy_changed.Goals as goal

pub changed_policy-requires : goal.changed_policy-requires
changed_policy-requires c = policy_of (state_in c.args.asked.now).realm c.args.c.now c.requires
