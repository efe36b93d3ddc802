use Rattle.std.proofs.Common.{[], refl}
use Rattle.master_keys.proofs.Rising.{rising_none, rising_one}
use Rattle.master_keys.proofs.first.first_part.Goals as goal

pub from_vec-requires : goal.from_vec-requires
from_vec-requires c = rw (c.in_ok-push.ensures.items, c.in_ok-activations.ensures.items) (rising_one 1)

pub from_vec-requires-2 : goal.from_vec-requires-2
from_vec-requires-2 c = rw c.new.ensures.items (rising_none [] refl)
