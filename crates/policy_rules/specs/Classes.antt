-- The classes of characters in a password.
use Rattle.std.specs.Prelude.{ℕ, Bool, not, ◌&&◌, nat_le, List, [], ◌∷◌, length, filter}
use Rattle.std.specs.List.{list_any}
use Rattle.policy_rules.specs.Names.{is_alphanumeric}
use Rattle.policy_rules.specs.declared.passwords.Class.{Class}
use Rattle.policy_rules.specs.declared.passwords.Class.TheVariants.{Lower, Upper, Digit, Mark, Other}

-- the bytes of a class
abbrev pub is_of : Class → ℕ → Bool
is_of Lower b = nat_le 97 b && nat_le b 122
is_of Upper b = nat_le 65 b && nat_le b 90
is_of Digit b = nat_le 48 b && nat_le b 57
is_of Mark b = nat_le 33 b && nat_le b 126 && not (is_alphanumeric b)
is_of Other b = not (nat_le 33 b && nat_le b 126)

-- some byte of the password is of the class
abbrev pub has : List ℕ → Class → Bool
has password class = list_any (is_of class) password

-- the classes of which the password has a byte
unfoldable pub classes_in : List ℕ → ℕ
classes_in password = length (filter (has password) (Lower ∷ Upper ∷ Digit ∷ Mark ∷ Other ∷ []))
