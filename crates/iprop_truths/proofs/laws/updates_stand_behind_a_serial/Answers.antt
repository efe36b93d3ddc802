use Rattle.iprop_truths.proofs.Polling.{updates_behind}
use Rattle.iprop_truths.proofs.laws.updates_stand_behind_a_serial.Goals as goal

pub returns : goal.returns
returns c = updates_behind
