-- Names in their printed form, as a test: components with / between them, an @ and a realm. A byte that is a sign, a
-- newline, a tab, a backspace or a nul stands behind a backslash.
use Rattle.std.specs.Prelude.{ℕ, ◌≡◌, ◌-◌, ◌==◌, Bool, true, false, not, ◌||◌, ◌&&◌, nat_lt}
use Rattle.std.specs.Prelude.{nat_le, List, [], ◌∷◌, codes, length, take, if◌then◌else◌}
use Rattle.std.specs.Str.{bytes_eq}
use Rattle.princ_name.specs.Bytes.{is_plain, is_sign}
use Rattle.princ_name.specs.Names.{NameParts, IsName, printed}

-- what stands behind a backslash
unfoldable pub is_letter : ℕ → Bool
is_letter c = c == 110 || c == 116 || c == 98 || c == 48 || is_sign c

-- what follows is a printed form's end: behind a backslash or not, in the realm or not, where the present text has a
-- byte or not, and so many more components may begin
unfoldable pub prints : Bool → Bool → Bool → ℕ → List ℕ → Bool
prints escape realm some left [] = not escape && realm && some
prints escape realm some left (c ∷ text) =
    if escape then is_letter c && prints false realm true left text
    else if c == 92 then prints true realm some left text
    else if c == 47 then not realm && nat_lt 0 left && prints false realm false (left - 1) text
    else if c == 64 then not realm && prints false true false left text
    else is_plain c && prints false realm true left text

-- at most 255 bytes, of at most 16 components
unfoldable pub is_printed : List ℕ → Bool
is_printed text = nat_le (length text) 255 && prints false false false 15 text

-- the printed form of some name
abbrev pub IsPrinted : List ℕ → Type 0
IsPrinted text = (name : NameParts) × (IsName name × (text ≡ printed name))

-- the components of the name of the master key's principal
abbrev pub master_parts : List (List ℕ)
master_parts = codes "K" ∷ codes "M" ∷ []

-- a printed name of these components
unfoldable pub is_master : List ℕ → Bool
is_master text = bytes_eq (take 4 text) (codes "K/M@")
