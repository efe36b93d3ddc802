use Rattle.master_keys.proofs.Rising.{rising_one}
use Rattle.master_keys.proofs.first.first_masters.Goals as goal

pub from_vec-requires : goal.from_vec-requires
from_vec-requires c = rw (c.in_ok-push.ensures.items, c.in_ok-masters.ensures.items) (rising_one 1)
