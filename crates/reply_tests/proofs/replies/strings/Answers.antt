use Rattle.std.proofs.Common.{List}
use Rattle.std.specs.List.Sorted.{IsStrictlySortedBy}
use Rattle.tagged_data.specs.KeyOrder.{AreInOrder}
use Rattle.tagged_data.specs.Strings.{keys_of}
use Rattle.tagged_data.specs.declared.string_attributes.StringAttribute.{StringAttribute}
use Rattle.kadm_replies.proofs.TestLemmas.{one_item}
use Rattle.reply_tests.proofs.replies.strings.Goals as goal

pub from_vec-requires : goal.from_vec-requires
unfolding IsStrictlySortedBy
from_vec-requires g c =
    let P : List StringAttribute → Type 0 = λ list. AreInOrder (keys_of list) in
    one_item P _ _ _ c.new-attributes.ensures.items c.in_ok-push.ensures.items (tt, tt)
