use Rattle.std.specs.List.Sorted.{IsStrictlySortedBy}
use Rattle.key_tests.proofs.shown_rows.judge.Goals as goal

pub from_vec-masters-requires : goal.from_vec-masters-requires
unfolding IsStrictlySortedBy
from_vec-masters-requires c = rw (c.in_ok-push.ensures.items, c.new-masters.ensures.items) (tt, tt)
