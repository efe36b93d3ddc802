use Rattle.std.proofs.Common.{List, ℕ}
use Rattle.std.specs.List.Sorted.{IsStrictlySortedBy}
use Rattle.tagged_data.specs.KeyOrder.{AreInOrder}
use Rattle.kadm_replies.proofs.TestLemmas.{one_item}
use Rattle.reply_tests.proofs.replies.names.Goals as goal

pub from_vec-requires : goal.from_vec-requires
unfolding IsStrictlySortedBy
from_vec-requires g c =
    let P : List (List ℕ) → Type 0 = λ names. AreInOrder names in
    one_item P _ _ _ c.new-names.ensures.items c.in_ok-push.ensures.items (tt, tt)
