-- The lines of lists: names, string attributes, extracted keys; and those of a policy.
use Rattle.std.specs.Prelude.{ℕ, List, [], ◌∷◌, ◌++◌, codes}
use Rattle.std.specs.Fmt.{decimal}
use Rattle.std.specs.List.{flat_map}
use Rattle.hex.specs.Hex.{encode_lower}
use Rattle.kadm_replies.specs.Texts.{data_line, etype_text, field_line}
use Rattle.kdb_base.specs.declared.extracts.Extract.{Extract}
use Rattle.policy_rules.specs.Rules.{Rules}
use Rattle.tagged_data.specs.declared.string_attributes.StringAttribute.{StringAttribute}

unfoldable pub names_text : List (List ℕ) → List ℕ
names_text names = flat_map data_line names

-- a key and its value
abbrev pub string_line : StringAttribute → List ℕ
string_line a = field_line a.key a.value

unfoldable pub strings_text : List StringAttribute → List ℕ
strings_text list = flat_map string_line list

-- a key's version, its encryption type and its bytes in hexadecimal, with letters in lower case
unfoldable pub extract_line : Extract → List ℕ
extract_line e =
    field_line (codes "key")
    (decimal e.kvno ++ (codes " " ++ (etype_text e.key.etype ++ (codes " " ++ encode_lower e.key.bytes))))

unfoldable pub extracts_text : List Extract → List ℕ
extracts_text list = flat_map extract_line list

-- a policy, field by field
unfoldable pub rules_text : Rules → List ℕ
rules_text p =
    field_line (codes "policy") p.name
    ++ (field_line (codes "maxlife") (decimal p.max_life)
    ++ (field_line (codes "minlife") (decimal p.min_life)
    ++ (field_line (codes "minlength") (decimal p.min_length)
    ++ (field_line (codes "minclasses") (decimal p.min_classes)
    ++ field_line (codes "history") (decimal p.history)))))

-- the letters of privileges, or a dash for none
unfoldable pub letters_text : List ℕ → List ℕ
letters_text [] = codes "-"
letters_text (letter ∷ letters) = letter ∷ letters
