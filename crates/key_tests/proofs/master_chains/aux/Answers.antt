use Rattle.master_keys.proofs.Rising.{rising_one}
use Rattle.key_tests.proofs.master_chains.aux.Goals as goal

pub from_vec-requires : goal.from_vec-requires
from_vec-requires c = rw (c.in_ok-push.ensures.items, c.new-list.ensures.items) (rising_one 1)
