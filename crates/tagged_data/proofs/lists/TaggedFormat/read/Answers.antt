use Rattle.std.proofs.Common.{List, sym, ap, ◌∙◌}
use Rattle.kdb_format.specs.Laws.{counted_list_field}
use Rattle.tagged_data.specs.Items.{item_field}
use Rattle.tagged_data.specs.Lists.{kinds_of}
use Rattle.tagged_data.specs.Rising.{rising_from, rising_is}
use Rattle.tagged_data.specs.declared.items.TagItem.{TagItem}
use Rattle.tagged_data.proofs.lists.TaggedFormat.read.Goals as goal

pub from_vec-requires-clause-rising : goal.from_vec-requires-clause-rising
from_vec-requires-clause-rising c =
    rising_is (kinds_of c.in_ok-items.items.items)
    (ap (λ (xs : List TagItem). rising_from 0 (kinds_of xs)) (sym c.deref.ensures.value) ∙ sym c.are_rising.ensures
    ∙ c.if-not-are_rising.false)

pub from_vec-requires-clause-items : goal.from_vec-requires-clause-items
from_vec-requires-clause-items c =
    ((counted_list_field 2 item_field).fits c.args.reader.now c.in_ok-items.items.items c.read_list_u16.new.reader
    c.holds_bytes.ensures c.in_ok-items.ensures).1
