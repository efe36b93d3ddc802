-- The names of policies.
use Rattle.std.specs.Prelude.{ℕ, Bool, false, ◌&&◌, ◌||◌, nat_eq, nat_le, List, [], ◌∷◌, length}
use Rattle.std.specs.List.{list_all}

-- a to z, A to Z, 0 to 9
abbrev pub is_alphanumeric : ℕ → Bool
is_alphanumeric b = (nat_le 97 b && nat_le b 122) || (nat_le 65 b && nat_le b 90) || (nat_le 48 b && nat_le b 57)

-- one of those, `_`, `-` or `.`
abbrev pub is_name_byte : ℕ → Bool
is_name_byte b = is_alphanumeric b || nat_eq b 95 || nat_eq b 45 || nat_eq b 46

abbrev pub begins_alphanumeric : List ℕ → Bool
begins_alphanumeric [] = false
begins_alphanumeric (b ∷ _) = is_alphanumeric b

-- 1 to 64 such bytes, of which the first is a letter or a digit
unfoldable pub is_policy_name : List ℕ → Bool
is_policy_name name = nat_le (length name) 64 && begins_alphanumeric name && list_all is_name_byte name
