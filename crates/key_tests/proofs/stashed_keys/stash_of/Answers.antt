use Rattle.master_keys.proofs.Rising.{rising_one}
use Rattle.key_tests.proofs.stashed_keys.stash_of.Goals as goal

pub from_vec-masters-requires : goal.from_vec-masters-requires
from_vec-masters-requires c = rw (c.in_ok-push.ensures.items, c.new-masters.ensures.items) (rising_one c.args.version)
