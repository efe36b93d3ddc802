use Rattle.std.proofs.Common.{refl}
use Rattle.std.specs.List.Sorted.{IsStrictlySortedBy}
use Rattle.key_tests.proofs.rekeying.two_masters.Goals as goal

pub from_vec-requires : goal.from_vec-requires
unfolding IsStrictlySortedBy
from_vec-requires c = rw c.in_ok-items.ensures.items ((refl, tt), (tt, tt))
