use Rattle.replica_core.proofs.Crashes.{part_left}
use Rattle.replica_core.proofs.laws.crashes_are_parts.Goals as goal

pub returns : goal.returns
returns c place made files is = part_left place made files is
