use Rattle.std.specs.List.Sorted.{IsStrictlySortedBy}
use Rattle.entry_lengths.proofs.tests.one_activation.Goals as goal

pub from_vec-requires : goal.from_vec-requires
unfolding IsStrictlySortedBy
from_vec-requires c = rw c.in_ok-items.ensures.items (tt, tt)
