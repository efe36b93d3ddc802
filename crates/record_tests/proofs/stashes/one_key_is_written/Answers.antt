use Rattle.std.specs.List.Sorted.{IsStrictlySortedBy}
use Rattle.record_tests.proofs.stashes.one_key_is_written.Goals as goal

pub from_vec-masters-requires : goal.from_vec-masters-requires
unfolding IsStrictlySortedBy
from_vec-masters-requires g c = rw c.in_ok-vec.ensures.items (tt, tt)
