use Rattle.std.proofs.Common.{[], refl}
use Rattle.master_keys.proofs.Rising.{rising_none}
use Rattle.key_tests.proofs.master_chains.no_aux.Goals as goal

pub from_vec-requires : goal.from_vec-requires
from_vec-requires c = rw c.new.ensures.items (rising_none [] refl)
