-- How long the spellings of records are.
use Rattle.std.proofs.Common.{ℕ, ◌+◌, ◌*◌, List, [], ◌∷◌, length, Option, Some, None}
use Rattle.tagged_data.specs.Versions.{aux_keys_text}
use Rattle.tagged_data.specs.Strings.{strings_text}
use Rattle.tagged_data.specs.declared.string_attributes.StringAttribute.{StringAttribute}
use Rattle.princ_record.specs.declared.facts.ChainPart.{ChainPart}

-- ---- the tagged list

abbrev pub pw_text_len : Option ℕ → ℕ
pw_text_len None = 0
pw_text_len (Some secs) = 8

abbrev pub chain_len : Option ChainPart → ℕ
chain_len None = 0
chain_len (Some c) = 8 + 6 * length c.activations + length (aux_keys_text c.aux)

abbrev pub strings_item_len : List StringAttribute → ℕ
strings_item_len [] = 0
strings_item_len (a ∷ list) = 4 + length (strings_text (a ∷ list))
