use Rattle.kdb_model.proofs.Stepping.{step_keeps}
use Rattle.kdb_model.proofs.laws.reading_command_changes_nothing.Goals as goal

pub returns : goal.returns
returns c = step_keeps
