use Rattle.iprop_truths.proofs.Polling.{poll_true}
use Rattle.iprop_truths.proofs.laws.polls_are_told_the_truth.Goals as goal

pub returns : goal.returns
returns c = poll_true
