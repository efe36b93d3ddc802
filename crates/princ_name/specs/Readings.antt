-- The name of the given realm that a word spells, or where the word is refused, as a function of its bytes.
use Rattle.std.specs.Prelude.{ℕ, ◌-◌, Bool, false, not, ◌||◌, ◌&&◌, nat_le, List, [], map, length, take}
use Rattle.std.specs.Prelude.{slice_index_or, Option, Some, None, is_some, unwrap_or, Result, Ok, Err, if◌then◌else◌}
use Rattle.std.specs.List.{list_all}
use Rattle.std.specs.Str.{bytes_eq}
use Rattle.princ_name.specs.Bytes.{can_stand}
use Rattle.princ_name.specs.Faults.{first_fault, fault_place}
use Rattle.princ_name.specs.Names.{NameParts, printed}
use Rattle.princ_name.specs.Reading.{Said, says, said_texts}

-- the limits of names, as a test
unfoldable pub is_name : NameParts → Bool
is_name name =
    nat_le 1 (length name.parts) && nat_le (length name.parts) 16
    && list_all (list_all can_stand) name.parts
    && nat_le 1 (length name.realm) && list_all can_stand name.realm
    && nat_le (length (printed name)) 255

-- the name of these texts: where an @ stands, the last text is the realm, and else the realm is the given one
unfoldable pub name_by : Option ℕ → List (List ℕ) → List ℕ → NameParts
name_by None texts given = record { parts = texts; realm = given }
name_by (Some at) texts given =
    record { parts = take (length texts - 1) texts; realm = slice_index_or texts (length texts - 1) [] }

-- what a word without a fault says
abbrev pub said_in : List ℕ → Said
said_in word = says 0 false None word

unfoldable pub name_said : List ℕ → List ℕ → NameParts
name_said word given = name_by (said_in word).realm_at (map (λ part. part.text) (said_texts (said_in word))) given

-- the place behind the @, where the word has one
unfoldable pub realm_place : List ℕ → ℕ
realm_place word = unwrap_or (said_in word).realm_at (length word)

-- a word with a fault, or of a name beyond the limits, is refused at its fault; a name of another realm is refused at
-- its realm
unfoldable pub own_name_in : List ℕ → List ℕ → Result NameParts ℕ
own_name_in word given =
    if is_some (first_fault word) || not (is_name (name_said word given)) then Err (fault_place word)
    else if bytes_eq (name_said word given).realm given then Ok (name_said word given)
    else Err (realm_place word)
