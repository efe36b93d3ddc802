-- The options of a line: their words, and how a line gives them.
use Rattle.std.specs.Prelude.{ℕ, ◌≡◌, Bool, true, false, not, ◌==◌, ◌||◌, nat_le, List, [], ◌∷◌, ◌++◌}
use Rattle.std.specs.Prelude.{codes, count_by, find, Option, Some, None, option_map, if◌then◌else◌}
use Rattle.std.specs.List.{list_all, list_any}
use Rattle.std.specs.Str.{bytes_eq}
use Rattle.kadm_values.specs.Flags.{flag_change}
use Rattle.kadm_options.specs.declared.options.OptionName.{OptionName}
use Rattle.kadm_options.specs.declared.options.OptionName.TheVariants.{NoKey, RandKey, Password, KeepOld, Enctypes}
use Rattle.kadm_options.specs.declared.options.OptionName.TheVariants.{Force, ShortForce, Policy, ClearPolicy}
use Rattle.kadm_options.specs.declared.options.OptionName.TheVariants.{Expire, PwExpire, MaxLife, MaxRenewLife}
use Rattle.kadm_options.specs.declared.options.OptionName.TheVariants.{MinLife, MinLength, MinClasses, History}
use Rattle.kadm_options.specs.declared.options.OptionName.TheVariants.{KeepKvno, MasterPassword, UlogSize}
use Rattle.kadm_options.specs.declared.options.Setting.{Setting}
use Rattle.kadm_options.specs.declared.options.Opening.{Opening}
use Rattle.kadm_options.specs.declared.options.Opening.TheVariants as opening
use Rattle.kadm_options.specs.declared.options.Given.{Given}
use Rattle.kadm_options.specs.declared.options.Given.TheVariants as given

-- ---- their words

unfoldable pub option_word : OptionName → List ℕ
option_word NoKey = codes "-nokey"
option_word RandKey = codes "-randkey"
option_word Password = codes "-pw"
option_word KeepOld = codes "-keepold"
option_word Enctypes = codes "-e"
option_word Force = codes "-force"
option_word ShortForce = codes "-f"
option_word Policy = codes "-policy"
option_word ClearPolicy = codes "-clearpolicy"
option_word Expire = codes "-expire"
option_word PwExpire = codes "-pwexpire"
option_word MaxLife = codes "-maxlife"
option_word MaxRenewLife = codes "-maxrenewlife"
option_word MinLife = codes "-minlife"
option_word MinLength = codes "-minlength"
option_word MinClasses = codes "-minclasses"
option_word History = codes "-history"
option_word KeepKvno = codes "-keepkvno"
option_word MasterPassword = codes "-P"
option_word UlogSize = codes "-ulogsize"

-- flags have words of their own, and more than one for each change
unfoldable pub opening_word : Opening → List ℕ
opening_word (opening.Flag change) = []
opening_word (opening.Alone option) = option_word option
opening_word (opening.Value setting) = option_word setting.option

abbrev pub opening_among : List Opening → List ℕ → Option Opening
opening_among known word = find (λ o. bytes_eq (opening_word o) word) known

abbrev pub flag_opening : Bool → List ℕ → Option Opening
flag_opening flags word = if flags then option_map (λ change. opening.Flag change) (flag_change word) else None

abbrev pub or_flag : Option Opening → Bool → List ℕ → Option Opening
or_flag None flags word = flag_opening flags word
or_flag (Some found) flags word = Some found

-- what a word says where these options may stand, and flags or none
unfoldable pub option_named : List Opening → Bool → List ℕ → Option Opening
option_named known flags word = or_flag (opening_among known word) flags word

-- ---- options in front of words, by what each word says

-- how an option begins, and the words behind
abbrev pub opening_of : Given → Opening
opening_of (given.Flag change) = opening.Flag change
opening_of (given.Alone option) = opening.Alone option
opening_of (given.Value setting value) = opening.Value setting

abbrev pub value_words : Given → List (List ℕ)
value_words (given.Flag change) = []
value_words (given.Alone option) = []
value_words (given.Value setting value) = value ∷ []

unfoldable pub is_dashes : List ℕ → Bool
is_dashes word = bytes_eq word (codes "--")

-- a word that begins with - or +
unfoldable pub is_signed : List ℕ → Bool
is_signed [] = false
is_signed (byte ∷ bytes) = byte == 45 || byte == 43

-- options end before two dashes, and before a word that begins otherwise
unfoldable pub ends_options : List ℕ → Bool
ends_options word = is_dashes word || not (is_signed word)

-- the words of an option, and those of the options behind it
pub record LedByOption (named : List ℕ → Option Opening) (option : Given) (SpellsRest : List (List ℕ) → Type 0)
    (words : List (List ℕ)) : Type 0 where
  pub word : List ℕ
  pub behind : List (List ℕ)
  pub goes_on : ends_options word ≡ false
  pub says : named word ≡ Some (opening_of option)
  pub words_are : words ≡ word ∷ (value_words option ++ behind)
  pub others : SpellsRest behind

-- the words begin with those of these options, and the rest is behind them
unfoldable pub SpellsOptions : (List ℕ → Option Opening) → List Given → List (List ℕ) → List (List ℕ) → Type 0
SpellsOptions named [] rest words = words ≡ rest
SpellsOptions named (option ∷ options) rest words = LedByOption named option (SpellsOptions named options rest) words

-- nothing, or a word before which options end
unfoldable pub EndsOptions : List (List ℕ) → Type 0
EndsOptions [] = Unit {0}
EndsOptions (word ∷ words) = ends_options word ≡ true

-- options, and the words behind them
pub record OptionParts : Type 0 where
  pub options : List Given
  pub rest : List (List ℕ)

-- the words are those of the options, as far as options go, and the rest
pub record SpellsParts (named : List ℕ → Option Opening) (parts : OptionParts) (words : List (List ℕ)) : Type 0 where
  pub options : SpellsOptions named parts.options parts.rest words
  pub ends : EndsOptions parts.rest

-- ---- the same as a function

abbrev pub no_options : List (List ℕ) → OptionParts
no_options rest = record { options = []; rest = rest }

-- options before the others
abbrev pub joined : List Given → Option OptionParts → Option OptionParts
joined options None = None
joined options (Some parts) = Some (record { options = options ++ parts.options; rest = parts.rest })

-- by what a word says: an option without a value, or one whose value comes next
abbrev pub by_opening : Option Opening → Option OptionParts → (Setting → Option OptionParts) → Option OptionParts
by_opening None rest value = None
by_opening (Some (opening.Flag change)) rest value = joined (given.Flag change ∷ []) rest
by_opening (Some (opening.Alone option)) rest value = joined (given.Alone option ∷ []) rest
by_opening (Some (opening.Value setting)) rest value = value setting

-- the options of these words and the words behind, where an option before them still wants its value, or none does
unfoldable pub options_from : (List ℕ → Option Opening) → Option Setting → List (List ℕ) → Option OptionParts
options_from named None [] = Some (no_options [])
options_from named (Some setting) [] = None
options_from named None (word ∷ words) =
    if ends_options word then Some (no_options (word ∷ words))
    else by_opening (named word) (options_from named None words) (λ setting. options_from named (Some setting) words)
options_from named (Some setting) (word ∷ words) =
    joined (given.Value setting word ∷ []) (options_from named None words)

-- nothing where a word says nothing, or a value is missing
abbrev pub options_in : (List ℕ → Option Opening) → List (List ℕ) → Option OptionParts
options_in named words = options_from named None words

-- ---- each at most once

-- what an option decides: -nokey, -randkey and -pw decide the same, how keys are made, and so do -policy and
-- -clearpolicy
unfoldable pub choice_of : OptionName → OptionName
choice_of RandKey = NoKey
choice_of Password = NoKey
choice_of ClearPolicy = Policy
choice_of option = option

unfoldable pub choices : List OptionName
choices =
    NoKey ∷ KeepOld ∷ Enctypes ∷ Force ∷ ShortForce ∷ Policy ∷ Expire ∷ PwExpire ∷ MaxLife ∷ MaxRenewLife ∷ MinLife
    ∷ MinLength ∷ MinClasses ∷ History
    ∷ KeepKvno ∷ MasterPassword ∷ UlogSize ∷ []

abbrev pub choice_given : Given → Option OptionName
choice_given (given.Flag change) = None
choice_given (given.Alone option) = Some (choice_of option)
choice_given (given.Value setting value) = Some (choice_of setting.option)

abbrev pub is_for : OptionName → Option OptionName → Bool
is_for choice None = false
is_for choice (Some other) = bytes_eq (option_word other) (option_word choice)

abbrev pub is_of : OptionName → Given → Bool
is_of choice option = is_for choice (choice_given option)

-- flags may be repeated; of what else is decided, each is decided once at most
unfoldable pub are_single : List Given → Bool
are_single options = list_all (λ choice. nat_le (count_by (is_of choice) options) 1) choices

unfoldable pub is_chosen : OptionName → List Given → Bool
is_chosen choice options = list_any (is_of choice) options

abbrev pub is_this : OptionName → Given → Bool
is_this option (given.Flag change) = false
is_this option (given.Alone other) = bytes_eq (option_word other) (option_word option)
is_this option (given.Value setting value) = bytes_eq (option_word setting.option) (option_word option)

-- an option of this name is among the options
unfoldable pub is_given : OptionName → List Given → Bool
is_given option options = list_any (is_this option) options
