-- Changes of the string attributes of a principal, which stand by rising keys.
use Rattle.std.specs.Prelude.{ℕ, Bool, ◌||◌, nat_lt, List, length}
use Rattle.std.specs.List.{list_any}
use Rattle.std.specs.Str.{bytes_eq}
use Rattle.kdb_base.specs.Limits.{most_strings}
use Rattle.princ_rows.specs.Effects.{put_by, drop_by}
use Rattle.tagged_data.specs.declared.string_attributes.StringAttribute.{StringAttribute}

abbrev pub key_of : StringAttribute → List ℕ
key_of a = a.key

abbrev pub is_string : List ℕ → StringAttribute → Bool
is_string key a = bytes_eq a.key key

-- there is an attribute of this key
unfoldable pub has_string : List ℕ → List StringAttribute → Bool
has_string key strings = list_any (is_string key) strings

-- sets an attribute, in the place of the one of its key
abbrev pub with_string : List ℕ → List ℕ → List StringAttribute → List StringAttribute
with_string key value strings = put_by key_of (record { key = key; value = value }) strings

-- takes an attribute away, where it is there
abbrev pub without_string : List ℕ → List StringAttribute → List StringAttribute
without_string key strings = drop_by key_of key strings

-- a principal with these attributes may have one of this key
unfoldable pub has_room_for : List ℕ → List StringAttribute → Bool
has_room_for key strings = has_string key strings || nat_lt (length strings) most_strings
