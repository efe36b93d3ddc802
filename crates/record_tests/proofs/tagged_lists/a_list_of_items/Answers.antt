use Rattle.std.proofs.Common.{[], ◌∷◌, refl}
use Rattle.tagged_data.specs.Rising.{rising_from, rising_is}
use Rattle.record_tests.proofs.tagged_lists.a_list_of_items.Goals as goal

-- one number rises
pub from_vec-requires-clause-rising : goal.from_vec-requires-clause-rising
unfolding rising_from
from_vec-requires-clause-rising g c =
    rw (c.in_ok-push.ensures.items, c.new-items.ensures.items) (rising_is (8 ∷ []) refl)
