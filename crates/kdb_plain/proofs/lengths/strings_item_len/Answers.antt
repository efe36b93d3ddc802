use Rattle.std.proofs.Common.{refl, sym, ap, ◌∙◌, List}
use Rattle.std.specs.List.{sum_by}
use Rattle.tagged_data.specs.StringLaws.{string_len}
use Rattle.tagged_data.specs.declared.string_attributes.StringAttribute.{StringAttribute}
use Rattle.princ_record.specs.Sizes.{strings_item_len}
use Rattle.kdb_plain.specs.Lengths.{in_64_bits}
use Rattle.kdb_plain.proofs.StringItems.{item_there}
use Rattle.kdb_plain.proofs.lengths.strings_item_len.Goals as goal

pub returns-in_default : goal.returns-in_default
returns-in_default c =
    c.add.ensures 4 (sum_by string_len c.as_slice.result.now) refl c.strings_len.ensures
    ∙ ap in_64_bits (sym (item_there c.as_slice.result.now c.in_default.len_at_least))
    ∙ ap (λ (list : List StringAttribute). in_64_bits (strings_item_len list)) c.as_slice.ensures.value
