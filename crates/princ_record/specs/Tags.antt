-- A principal's tagged list as a list of items.
use Rattle.std.proofs.Common.{ℕ, List, [], ◌∷◌, ◌++◌, Option, Some, None}
use Rattle.kdb_format.specs.Spellings.{little}
use Rattle.tagged_data.specs.Modifiers.{modifier_text}
use Rattle.tagged_data.specs.Versions.{activations_text, aux_keys_text}
use Rattle.tagged_data.specs.Strings.{strings_text}
use Rattle.tagged_data.specs.declared.items.TagItem.{TagItem}
use Rattle.tagged_data.specs.declared.string_attributes.StringAttribute.{StringAttribute}
use Rattle.princ_record.specs.declared.facts.ChainPart.{ChainPart}
use Rattle.princ_record.specs.declared.facts.Facts.{Facts}

-- type 1, the last password change
unfoldable pub pw_tags : Option ℕ → List TagItem
pw_tags None = []
pw_tags (Some secs) = record { kind = 1; bytes = little 4 secs } ∷ []

-- types 9 and 10, the activations and the auxiliary keys
unfoldable pub chain_tags : Option ChainPart → List TagItem
chain_tags None = []
chain_tags (Some c) =
    record { kind = 9; bytes = activations_text c.activations } ∷ record { kind = 10; bytes = aux_keys_text c.aux } ∷ []

-- type 11, the string attributes
unfoldable pub string_tags : List StringAttribute → List TagItem
string_tags [] = []
string_tags (a ∷ list) = record { kind = 11; bytes = strings_text (a ∷ list) } ∷ []

-- in between type 2, the modifier, and type 8, the version of the master key
unfoldable pub tags : Facts → List TagItem
tags f = pw_tags f.pw_changed ++ record { kind = 2; bytes = modifier_text (f.modified, f.modifier) }
    ∷ record { kind = 8; bytes = little 2 f.mkvno } ∷ (chain_tags f.chain ++ string_tags f.strings)
