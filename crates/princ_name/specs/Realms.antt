-- The name of a realm as a database has it.
use Rattle.std.proofs.Common.{ℕ, ◌≤◌, Bool, ◌&&◌, List, length}
use Rattle.std.specs.Prelude.{IsTrue, ◌||◌, nat_le, nat_eq}
use Rattle.std.specs.List.{list_all}
use Rattle.std.proofs.lemmas.Bool.{and_parts, leb-true}

-- letters, digits, `.` and `-`
abbrev pub is_realm_byte : ℕ → Bool
is_realm_byte b = (nat_le 97 b && nat_le b 122) || (nat_le 65 b && nat_le b 90) || (nat_le 48 b && nat_le b 57)
    || nat_eq b 46 || nat_eq b 45

-- 1 to 64 such bytes
abbrev pub is_realm : List ℕ → Bool
is_realm bytes = nat_le 1 (length bytes) && nat_le (length bytes) 64 && list_all is_realm_byte bytes

abbrev pub IsRealm : List ℕ → Type 0
IsRealm bytes = IsTrue (is_realm bytes)

pub realm_length : (realm : List ℕ) → IsRealm realm → length realm ≤ 64
realm_length realm is =
    let front = and_parts (nat_le 1 (length realm) && nat_le (length realm) 64) (list_all is_realm_byte realm) is in
    leb-true (length realm) 64 (and_parts (nat_le 1 (length realm)) (nat_le (length realm) 64) front.0).1
