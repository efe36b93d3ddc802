use Rattle.kdb_histories.proofs.Paths.{ask_state}
use Rattle.kdb_histories.proofs.laws.histories_follow_their_asks.Goals as goal

pub returns : goal.returns
returns c = ask_state
