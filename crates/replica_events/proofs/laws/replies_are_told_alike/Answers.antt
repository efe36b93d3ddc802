use Rattle.replica_events.proofs.laws.replies_are_told_alike.Goals as goal
use Rattle.std.proofs.Common.{refl}

pub returns : goal.returns
returns c = λ r. refl
