-- String attributes: for each its key, a zero byte, its value and a zero byte, by rising keys.
use Rattle.std.specs.Prelude.{ℕ, ◌≤◌, Bool, ◌&&◌, ◌||◌, not, nat_eq, nat_le, nat_lt, List, ◌++◌}
use Rattle.std.specs.Prelude.{length, map, Option, Some, None, option_and_then, IsTrue, if◌then◌else◌}
use Rattle.std.specs.Char.{is_ascii_alphanumeric}
use Rattle.std.specs.List.{All, list_all, flat_map}
use Rattle.kdb_base.specs.Limits.{most_strings}
use Rattle.kdb_format.specs.Readings.{Reading, ◌>>=◌, done, checked}
use Rattle.tagged_data.specs.Contents.{items_of}
use Rattle.tagged_data.specs.KeyOrder.{AreInOrder, rises_from}
use Rattle.tagged_data.specs.Modifiers.{ended_at, ended}
use Rattle.tagged_data.specs.declared.string_attributes.StringAttribute.{StringAttribute}

-- a letter, a digit, `_`, `-` or `.`
abbrev pub is_key_byte : ℕ → Bool
is_key_byte b = is_ascii_alphanumeric b || nat_eq b 95 || nat_eq b 45 || nat_eq b 46

-- 1 to 64 such bytes
unfoldable pub is_string_key : List ℕ → Bool
is_string_key key = nat_lt 0 (length key) && nat_le (length key) 64 && list_all is_key_byte key

-- neither below 20 hexadecimal nor 7f
abbrev pub is_value_byte : ℕ → Bool
is_value_byte b = nat_le 32 b && not (nat_eq b 127)

-- 0 to 1024 such bytes
unfoldable pub is_string_value : List ℕ → Bool
is_string_value value = nat_le (length value) 1024 && list_all is_value_byte value

unfoldable pub string_at : Reading StringAttribute
string_at = do
  key ← checked is_string_key ended_at
  value ← checked is_string_value ended_at
  done (record { key = key; value = value })

unfoldable pub string : StringAttribute → List ℕ
string a = ended a.key ++ ended a.value

pub record IsString (a : StringAttribute) : Type 0 where
  pub key : IsTrue (is_string_key a.key)
  pub value : IsTrue (is_string_value a.value)

abbrev pub keys_of : List StringAttribute → List (List ℕ)
keys_of list = map (λ a. a.key) list

-- at least one, at most 16, and each key behind the one before it
unfoldable pub are_strings : List StringAttribute → Bool
are_strings list = nat_lt 0 (length list) && nat_le (length list) most_strings && rises_from None (keys_of list)

unfoldable pub strings_at : List ℕ → Option (List StringAttribute)
strings_at bytes = option_and_then (λ list. if are_strings list then Some list else None) (items_of string_at bytes)

unfoldable pub strings_text : List StringAttribute → List ℕ
strings_text list = flat_map string list

-- the attributes that a principal may have, also none
pub record AreStrings (list : List StringAttribute) : Type 0 where
  pub few : length list ≤ most_strings
  pub each : All IsString list
  pub rising : AreInOrder (keys_of list)
