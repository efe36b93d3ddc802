use Rattle.kdb_model.proofs.Stepping.{step_refused}
use Rattle.kdb_model.proofs.laws.refused_command_changes_nothing.Goals as goal

pub returns : goal.returns
returns c = step_refused
