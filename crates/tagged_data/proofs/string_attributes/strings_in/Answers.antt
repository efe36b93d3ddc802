use Rattle.std.proofs.Common.{List, sym, ap, ◌∙◌}
use Rattle.tagged_data.specs.KeyOrderLaws.{in_order}
use Rattle.tagged_data.specs.Strings.{keys_of, are_strings}
use Rattle.tagged_data.specs.StringLaws.{strings_rise}
use Rattle.tagged_data.specs.declared.string_attributes.StringAttribute.{StringAttribute}
use Rattle.tagged_data.proofs.string_attributes.strings_in.Goals as goal

pub from_vec-requires : goal.from_vec-requires
from_vec-requires c =
    let items = c.in_ok-items.items.items in
    in_order (keys_of items)
    (strings_rise items (ap (λ (xs : List StringAttribute). are_strings xs) (sym c.deref.ensures.value)
    ∙ sym c.are_strings.ensures ∙ c.if-not-are_strings.false)).1.1
