use Rattle.kdb_histories.proofs.Resetting.{caused}
use Rattle.kdb_histories.proofs.laws.logs_begin_anew_for_a_cause.Goals as goal

pub returns : goal.returns
returns c = caused
