use Rattle.std.proofs.Common.{refl}
use Rattle.std.specs.List.Sorted.{IsStrictlySortedBy}
use Rattle.record_tests.proofs.stashes.two_keys_are_read_back.Goals as goal

pub from_vec-masters-requires : goal.from_vec-masters-requires
unfolding IsStrictlySortedBy
from_vec-masters-requires g c = rw c.in_ok-vec.ensures.items ((refl, tt), (tt, tt))
