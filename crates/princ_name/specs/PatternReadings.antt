-- The pattern that a word spells in a database of the given realm, as a function of its bytes.
use Rattle.std.specs.Prelude.{ℕ, ◌≡◌, ◌-◌, Bool, true, not, ◌||◌, List, [], ◌∷◌, length, take, slice_index_or}
use Rattle.std.specs.Prelude.{Option, Some, None, is_some, if◌then◌else◌, Result, Ok, Err, ⊤}
use Rattle.std.specs.Str.{bytes_eq}
use Rattle.princ_name.specs.Faults.{first_fault}
use Rattle.princ_name.specs.Reading.{empty_part, said_texts}
use Rattle.princ_name.specs.Readings.{is_name, said_in}
use Rattle.princ_name.specs.Shape.{PatternShape, Every, Parts}
use Rattle.princ_name.specs.Whole.{given_part, name_of}
use Rattle.princ_name.specs.declared.faults.NameFault.{NameFault}
use Rattle.princ_name.specs.declared.faults.NameFault.TheVariants.{BadName, MemoryOut}
use Rattle.princ_name.specs.declared.parts.Part.{Part}

-- the pattern of these texts: where an @ stands, the last one is the realm, and else the realm is the given one
unfoldable pub pattern_by : Option ℕ → List Part → List ℕ → PatternShape
pattern_by None texts given = Parts texts (given_part given)
pattern_by (Some at) texts given =
    Parts (take (length texts - 1) texts) (slice_index_or texts (length texts - 1) empty_part)

abbrev pub within_limits : PatternShape → Bool
within_limits Every = true
within_limits (Parts parts realm) = is_name (name_of parts realm)

abbrev pub pattern_said : List ℕ → List ℕ → PatternShape
pattern_said word given = pattern_by (said_in word).realm_at (said_texts (said_in word)) given

-- the pattern of a word in a database of the given realm: `*` alone stands for every name, and a word with a fault or
-- of a name beyond the limits has none
unfoldable pub pattern_in : List ℕ → List ℕ → Option PatternShape
pattern_in word given =
    if bytes_eq word (42 ∷ []) then Some Every
    else (if is_some (first_fault word) || not (within_limits (pattern_said word given)) then None
    else Some (pattern_said word given))

-- the pattern that a word has is answered, none where it has none, or memory ran out
unfoldable pub ReadsPattern : Option PatternShape → Result PatternShape NameFault → Type 0
ReadsPattern found (Ok pattern) = found ≡ Some pattern
ReadsPattern found (Err MemoryOut) = ⊤
ReadsPattern found (Err (BadName offset)) = found ≡ None
