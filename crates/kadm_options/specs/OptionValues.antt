-- The values of options.
use Rattle.std.specs.Prelude.{ℕ, ◌≡◌, ◌≤◌, ◌⊎◌, Bool, true, ◌&&◌, nat_le, List, []}
use Rattle.std.specs.Prelude.{◌∷◌, Option, Some, None, is_some, if◌then◌else◌}
use Rattle.std.specs.List.{filter_map, slice_get}
use Rattle.std.specs.Str.{bytes_eq}
use Rattle.std.specs.Option.{option_and_then}
use Rattle.kadm_values.specs.Durations.{SpellsDuration}
use Rattle.kadm_values.specs.EtypeWords.{SpellsEtype, SpellsEtypes, etype_named, etypes_in}
use Rattle.kadm_values.specs.Numbers.{SpellsNumber}
use Rattle.kadm_options.specs.Options.{option_word}
use Rattle.kadm_values.specs.Readings.{duration_in, number_in, time_in}
use Rattle.kadm_values.specs.Times.{SpellsTime}
use Rattle.kadm_values.specs.declared.flags.FlagChange.{FlagChange}
use Rattle.kadm_options.specs.declared.options.Given.{Given}
use Rattle.kadm_options.specs.declared.options.Given.TheVariants.{Flag, Alone, Value}
use Rattle.kadm_options.specs.declared.options.OptionName.{OptionName}
use Rattle.kadm_options.specs.declared.options.OptionName.TheVariants.{Policy, ClearPolicy}
use Rattle.kadm_options.specs.declared.options.ValueKind.{ValueKind}
use Rattle.kadm_options.specs.declared.options.ValueKind.TheVariants.{Time, Duration, PolicyName, Word}
use Rattle.kadm_options.specs.declared.options.ValueKind.TheVariants.{EtypeList, OneEtype, Number}
use Rattle.kdb_base.specs.declared.keys.Etype.{Etype}
use Rattle.kdb_base.specs.declared.outcomes.Field.{Field}
use Rattle.policy_rules.specs.Names.{is_policy_name}

-- ---- what the words spell

-- a time or a duration, in seconds
abbrev pub SpellsValue : ValueKind → List ℕ → ℕ → Type 0
SpellsValue Time word secs = SpellsTime word secs
SpellsValue Duration word secs = SpellsDuration word secs
SpellsValue _ word secs = ⊥

-- a number from the least one to the greatest one
pub record SpellsWithin (least most : ℕ) (word : List ℕ) (number : ℕ) : Type 0 where
  pub spelled : SpellsNumber word number
  pub from : least ≤ number
  pub to : number ≤ most

-- the word spells some such value
unfoldable pub HasValue : ValueKind → List ℕ → Type 0
HasValue Time word = (secs : ℕ) × SpellsTime word secs
HasValue Duration word = (secs : ℕ) × SpellsDuration word secs
HasValue PolicyName word = is_policy_name word ≡ true
HasValue Word word = Unit {0}
HasValue EtypeList word = (etypes : List Etype) × SpellsEtypes word etypes
HasValue OneEtype word = (etype : Etype) × SpellsEtype word etype
HasValue (Number least most) word = (number : ℕ) × SpellsWithin least most word number

-- the option has a value or needs none
abbrev pub IsReadable : Given → Type 0
IsReadable (Flag change) = Unit {0}
IsReadable (Alone option) = Unit {0}
IsReadable (Value setting word) = HasValue setting.kind word

-- the option's word spells no value; a refusal names it by this field
abbrev pub IsBad : Given → Field → Type 0
IsBad (Flag change) field = ⊥
IsBad (Alone option) field = ⊥
IsBad (Value setting word) field = (HasValue setting.kind word → ⊥) × (field ≡ setting.field)

unfoldable pub AreReadable : List Given → Type 0
AreReadable [] = Unit {0}
AreReadable (option ∷ options) = IsReadable option × AreReadable options

-- the first of the options whose word spells no value is of this field
unfoldable pub IsFirstBad : List Given → Field → Type 0
IsFirstBad [] field = ⊥
IsFirstBad (option ∷ options) field = IsBad option field ⊎ (IsReadable option × IsFirstBad options field)

abbrev pub is_named : OptionName → OptionName → Bool
is_named option other = bytes_eq (option_word other) (option_word option)

-- the option has this name, and its word spells so many seconds
abbrev pub GivesSeconds : OptionName → Given → ℕ → Type 0
GivesSeconds option (Flag change) secs = ⊥
GivesSeconds option (Alone other) secs = ⊥
GivesSeconds option (Value setting word) secs =
    (is_named option setting.option ≡ true) × SpellsValue setting.kind word secs

-- what the first option gives that has this name and gives seconds
unfoldable pub SpellsField : OptionName → List Given → Option ℕ → Type 0
SpellsField option [] found = found ≡ None
SpellsField option (first ∷ options) found =
    ((secs : ℕ) × GivesSeconds option first secs × (found ≡ Some secs))
    ⊎ (((secs : ℕ) → GivesSeconds option first secs → ⊥) × SpellsField option options found)

-- ---- the same as functions

unfoldable pub seconds_of : ValueKind → List ℕ → Option ℕ
seconds_of Time word = time_in word
seconds_of Duration word = duration_in word
seconds_of _ word = None

abbrev pub kept_within : ℕ → ℕ → ℕ → Option ℕ
kept_within least most number = if nat_le least number && nat_le number most then Some number else None

-- the number of a word, where it is one from the least to the greatest
unfoldable pub number_within : ℕ → ℕ → List ℕ → Option ℕ
number_within least most word = option_and_then (kept_within least most) (number_in word)

unfoldable pub is_readable : ValueKind → List ℕ → Bool
is_readable Time word = is_some (time_in word)
is_readable Duration word = is_some (duration_in word)
is_readable PolicyName word = is_policy_name word
is_readable Word word = true
is_readable EtypeList word = is_some (etypes_in word)
is_readable OneEtype word = is_some (etype_named word)
is_readable (Number least most) word = is_some (number_within least most word)

-- the field of an option whose word spells no value
abbrev pub bad_in : Given → Option Field
bad_in (Flag change) = None
bad_in (Alone option) = None
bad_in (Value setting word) = if is_readable setting.kind word then None else Some setting.field

-- the field of the first such option
unfoldable pub first_bad_in : List Given → Option Field
first_bad_in options = slice_get (filter_map bad_in options) 0

abbrev pub seconds_by : OptionName → Given → Option ℕ
seconds_by option (Flag change) = None
seconds_by option (Alone other) = None
seconds_by option (Value setting word) = if is_named option setting.option then seconds_of setting.kind word else None

unfoldable pub seconds_given : OptionName → List Given → Option ℕ
seconds_given option options = slice_get (filter_map (seconds_by option) options) 0

-- ---- words

-- the option has this name and this word
abbrev pub GivesWord : OptionName → Given → List ℕ → Type 0
GivesWord option (Flag change) found = ⊥
GivesWord option (Alone other) found = ⊥
GivesWord option (Value setting word) found = (is_named option setting.option ≡ true) × (found ≡ word)

-- the word of the first option that has this name and a word
unfoldable pub SpellsWordOf : OptionName → List Given → Option (List ℕ) → Type 0
SpellsWordOf option [] found = found ≡ None
SpellsWordOf option (first ∷ options) found =
    ((word : List ℕ) × GivesWord option first word × (found ≡ Some word))
    ⊎ (((word : List ℕ) → GivesWord option first word → ⊥) × SpellsWordOf option options found)

abbrev pub word_by : OptionName → Given → Option (List ℕ)
word_by option (Flag change) = None
word_by option (Alone other) = None
word_by option (Value setting word) = if is_named option setting.option then Some word else None

unfoldable pub word_given : OptionName → List Given → Option (List ℕ)
word_given option options = slice_get (filter_map (word_by option) options) 0

-- ---- policies and flags

abbrev pub policy_by : Given → Option (Option (List ℕ))
policy_by (Flag change) = None
policy_by (Alone option) = if is_named ClearPolicy option then Some None else None
policy_by (Value setting word) = if is_named Policy setting.option then Some (Some word) else None

-- the policy, where one is named or taken away
unfoldable pub policy_given : List Given → Option (Option (List ℕ))
policy_given options = slice_get (filter_map policy_by options) 0

abbrev pub flag_of : Given → Option FlagChange
flag_of (Flag change) = Some change
flag_of (Alone option) = None
flag_of (Value setting word) = None
