use Rattle.kdb_model.proofs.Stepping.{fold_joins}
use Rattle.kdb_model.proofs.laws.commands_go_on.Goals as goal

pub returns : goal.returns
returns c = fold_joins
