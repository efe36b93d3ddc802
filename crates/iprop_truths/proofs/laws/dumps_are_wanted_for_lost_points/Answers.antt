use Rattle.iprop_truths.proofs.Polling.{wanted}
use Rattle.iprop_truths.proofs.laws.dumps_are_wanted_for_lost_points.Goals as goal

pub returns : goal.returns
returns c = wanted
