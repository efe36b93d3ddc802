use Rattle.kdb_plain.proofs.Valid.{put_policy_valid, drop_policy_valid}
use Rattle.kdb_plain.proofs.laws.policies_keep_states_valid.Goals as goal

pub returns-clause-put : goal.returns-clause-put
returns-clause-put c = put_policy_valid

pub returns-clause-drop : goal.returns-clause-drop
returns-clause-drop c = drop_policy_valid
