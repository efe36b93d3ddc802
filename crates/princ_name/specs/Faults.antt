-- Where a word that spells no name is at fault.
use Rattle.std.specs.Prelude.{ℕ, ◌+◌, ◌-◌, ◌==◌, Bool, true, false, ◌||◌, ◌&&◌, List, []}
use Rattle.std.specs.Prelude.{◌∷◌, Option, Some, None, length, unwrap_or, if◌then◌else◌}
use Rattle.princ_name.specs.Bytes.{is_refused}

-- the first fault of the bytes from this place on, behind a backslash or not, behind an @ or not: a control byte; a
-- backslash at the end; behind an @, a further @ or a /
unfoldable pub fault_from : ℕ → Bool → Bool → List ℕ → Option ℕ
fault_from at behind_slash in_realm [] = if behind_slash then Some (at - 1) else None
fault_from at behind_slash in_realm (c ∷ word) =
    if is_refused c then Some at
    else if behind_slash then fault_from (at + 1) false in_realm word
    else if c == 92 then fault_from (at + 1) true in_realm word
    else if (c == 47 || c == 64) && in_realm then Some at
    else fault_from (at + 1) false (c == 64 || in_realm) word

unfoldable pub first_fault : List ℕ → Option ℕ
first_fault word = fault_from 0 false false word

-- a word without such a fault is at fault behind its last byte: the realm is empty, or the name breaks a limit
unfoldable pub fault_place : List ℕ → ℕ
fault_place word = unwrap_or (first_fault word) (length word)
