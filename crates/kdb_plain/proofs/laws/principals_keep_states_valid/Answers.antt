use Rattle.kdb_plain.proofs.Valid.{put_valid, drop_valid}
use Rattle.kdb_plain.proofs.laws.principals_keep_states_valid.Goals as goal

pub returns-clause-put : goal.returns-clause-put
returns-clause-put c = put_valid

pub returns-clause-drop : goal.returns-clause-drop
returns-clause-drop c = drop_valid
