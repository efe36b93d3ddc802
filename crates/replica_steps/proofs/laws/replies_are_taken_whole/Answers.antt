use Rattle.replica_steps.proofs.Wholes.{takes_whole}
use Rattle.replica_steps.proofs.laws.replies_are_taken_whole.Goals as goal

pub returns : goal.returns
returns c = takes_whole
