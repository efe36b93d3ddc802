-- How long the item of string attributes is.
use Rattle.std.proofs.Common.{◌≡◌, ℕ, ◌+◌, ◌≤◌, List, [], ◌∷◌, length, ap, arith}
use Rattle.std.specs.List.{sum_by}
use Rattle.tagged_data.specs.StringLaws.{string_len, length-strings_text}
use Rattle.tagged_data.specs.declared.string_attributes.StringAttribute.{StringAttribute}
use Rattle.princ_record.specs.Sizes.{strings_item_len}

-- with an attribute there is an item
pub item_there : (list : List StringAttribute) → 1 ≤ length list → strings_item_len list ≡ 4 + sum_by string_len list
item_there [] le = absurd (omega arith)
item_there (a ∷ list) le = ap (λ (n : ℕ). 4 + n) (length-strings_text (a ∷ list))
