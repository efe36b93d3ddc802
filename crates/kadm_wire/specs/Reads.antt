-- What is read of words and options in turn: the first fault is what is read. Each part twice, as a relation and as a
-- function.
use Rattle.std.specs.Prelude.{ℕ, ◌≡◌, ◌≤◌, ◌<◌, ◌⊎◌, Bool, true, false, not, ◌==◌, List, []}
use Rattle.std.specs.Prelude.{◌∷◌, ◌++◌, Option, Some, None, Result, Ok, Err, if◌then◌else◌}
use Rattle.std.specs.List.{list_any, list_all}
use Rattle.std.specs.Option.{option_and_then}
use Rattle.kadm_options.specs.OptionValues.{AreReadable, IsFirstBad}
use Rattle.kadm_options.specs.declared.options.Given.{Given}
use Rattle.kadm_values.specs.Readings.{time_in}
use Rattle.kadm_values.specs.Times.{SpellsTime}
use Rattle.kdb_base.specs.declared.outcomes.Field.{Field}
use Rattle.kdb_base.specs.declared.outcomes.Refusal.TheVariants.{BadName, BadValue}
use Rattle.princ_name.specs.Answers.{IsRefusedAt}
use Rattle.princ_name.specs.Names.{NameParts, IsName}
use Rattle.princ_name.specs.Spelling.{Spells}
use Rattle.kadm_wire.specs.declared.readings.Reading.{Reading}
use Rattle.kadm_wire.specs.declared.readings.Reading.TheVariants.{Refuses}

-- ---- relations

-- the word spells a name of the given realm
pub record SpellsOwnName (word realm : List ℕ) (name : NameParts) : Type 0 where
  pub spelled : Spells word realm name
  pub limits : IsName name
  pub own : name.realm ≡ realm

-- a name, with which it goes on, or a word that is refused at this place
abbrev pub IfNamed : List ℕ → List ℕ → (NameParts → Reading → Type 0) → Reading → Type 0
IfNamed realm word Next reading =
    ((name : NameParts) × SpellsOwnName word realm name × Next name reading)
    ⊎ ((offset : ℕ) × IsRefusedAt word realm offset × (reading ≡ Refuses (BadName offset)))

-- options with readable values, or the field of the first one whose value is unreadable
abbrev pub IfReadable : List Given → (Reading → Type 0) → Reading → Type 0
IfReadable options Next reading =
    (AreReadable options × Next reading)
    ⊎ ((field : Field) × IsFirstBad options field × (reading ≡ Refuses (BadValue field)))

-- a value that the word spells, or none
abbrev pub IfSpelled : {A : Type 0} → (A → Type 0) → Field → (A → Reading → Type 0) → Reading → Type 0
IfSpelled {A} SpellsIt field Next reading =
    ((x : A) × SpellsIt x × Next x reading) ⊎ (((x : A) → SpellsIt x → ⊥) × (reading ≡ Refuses (BadValue field)))

-- a word that passes a test
abbrev pub IfGood : Bool → Field → (Reading → Type 0) → Reading → Type 0
IfGood good field Next reading =
    ((good ≡ true) × Next reading) ⊎ ((good ≡ false) × (reading ≡ Refuses (BadValue field)))

-- a time from which on a version is active: 0 is never, and no such time
pub record SpellsActivation (word : List ℕ) (secs : ℕ) : Type 0 where
  pub spelled : SpellsTime word secs
  pub set : 0 < secs

-- no [, which is kept for sets of bytes
unfoldable pub is_glob_word : List ℕ → Bool
is_glob_word word = list_all (λ byte. not (byte == 91)) word

-- a glob without an @ is one of names of the given realm
unfoldable pub whole_glob : List ℕ → List ℕ → List ℕ
whole_glob realm word = if list_any (λ byte. byte == 64) word then word else word ++ 64 ∷ realm

-- ---- functions

abbrev pub with_name : Result NameParts ℕ → (NameParts → Reading) → Reading
with_name (Err offset) next = Refuses (BadName offset)
with_name (Ok name) next = next name

abbrev pub unless_bad : Option Field → Reading → Reading
unless_bad None next = next
unless_bad (Some field) next = Refuses (BadValue field)

abbrev pub with_value : {A : Type 0} → Option A → Field → (A → Reading) → Reading
with_value None field next = Refuses (BadValue field)
with_value (Some x) field next = next x

abbrev pub when_good : Bool → Field → Reading → Reading
when_good good field next = if good then next else Refuses (BadValue field)

abbrev pub unless_never : ℕ → Option ℕ
unless_never secs = if secs == 0 then None else Some secs

unfoldable pub activation_in : List ℕ → Option ℕ
activation_in word = option_and_then unless_never (time_in word)
