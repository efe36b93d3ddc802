-- What the words behind `ktremove` and `ktadd` ask for.
use Rattle.std.specs.Prelude.{ℕ, ◌≢◌, ◌≤◌, nat_le, List, [], ◌∷◌, codes, length, Option}
use Rattle.std.specs.Prelude.{Some, None, option_map, Result, Ok, Err, if◌then◌else◌}
use Rattle.std.specs.Str.{bytes_eq}
use Rattle.kadm_options.specs.OptionValues.{number_within}
use Rattle.kadm_options.specs.Options.{is_dashes, is_signed}
use Rattle.kadm_values.specs.EtypeWords.{etypes_in}
use Rattle.kdb_base.specs.declared.keys.Etype.{Etype}
use Rattle.kdb_base.specs.declared.keys.Etype.TheVariants.{Aes128, Aes256}
use Rattle.kdb_base.specs.declared.outcomes.Field.TheVariants.{Enctypes, Kvno}
use Rattle.kdb_base.specs.declared.outcomes.Refusal.{Refusal}
use Rattle.kdb_base.specs.declared.outcomes.Refusal.TheVariants.{BadLine, BadName, BadValue}
use Rattle.keytab_out.specs.declared.removing.Which.{Which}
use Rattle.keytab_out.specs.declared.removing.Which.TheVariants.{One, All, Older}
use Rattle.keytab_words.specs.declared.words.KeytabWords.{KeytabWords}
use Rattle.keytab_words.specs.declared.words.KeytabWords.TheVariants.{Remove, AddStanding, AddRenewed}
use Rattle.plain_keys.specs.Keys.{AreOnce}
use Rattle.princ_name.specs.Names.{NameParts}
use Rattle.princ_name.specs.Readings.{name_said, own_name_in}

-- the most bytes of a word that is a name, as of a line
abbrev pub longest_word : ℕ
longest_word = 65536

-- The words behind two dashes, or all of them. None, where an option stands first: there are none.
unfoldable pub plain_words : List (List ℕ) → Option (List (List ℕ))
plain_words [] = Some []
plain_words (word ∷ words) =
    if is_dashes word then Some words else (if is_signed word then None else Some (word ∷ words))

-- ---- `ktremove NAME all`, `ktremove NAME old`, `ktremove NAME KVNO`

-- the name that a word spells in the realm that it names itself; without one it is refused at its end
abbrev pub whole_name_in : List ℕ → Result NameParts ℕ
whole_name_in word = own_name_in word (name_said word []).realm

unfoldable pub which_in : List ℕ → Option Which
which_in word =
    if bytes_eq word (codes "all") then Some All
    else if bytes_eq word (codes "old") then Some Older
    else option_map One (number_within 1 4294967295 word)

-- the name is judged before the version
abbrev pub removal_of : Result NameParts ℕ → Option Which → Result KeytabWords Refusal
removal_of (Err offset) which = Err (BadName offset)
removal_of (Ok name) None = Err (BadValue Kvno)
removal_of (Ok name) (Some which) = Ok (Remove name which)

abbrev pub removal_by : List ℕ → List ℕ → Result KeytabWords Refusal
removal_by word which = if nat_le (length word) longest_word then removal_of (whole_name_in word) (which_in which)
    else Err BadLine

unfoldable pub ktremove_by : List (List ℕ) → Result KeytabWords Refusal
ktremove_by (word ∷ which ∷ []) = removal_by word which
ktremove_by _ = Err BadLine

abbrev pub unless_optioned : (List (List ℕ) → Result KeytabWords Refusal) → Option (List (List ℕ))
    → Result KeytabWords Refusal
unless_optioned by None = Err BadLine
unless_optioned by (Some words) = by words

unfoldable pub ktremove_in : List (List ℕ) → Result KeytabWords Refusal
ktremove_in words = unless_optioned ktremove_by (plain_words words)

-- ---- `ktadd -norandkey NAME`

abbrev pub addition_of : List ℕ → Result KeytabWords Refusal
addition_of word = if nat_le (length word) longest_word then Ok (AddStanding word) else Err BadLine

unfoldable pub addition_by : List (List ℕ) → Result KeytabWords Refusal
addition_by (word ∷ []) = addition_of word
addition_by _ = Err BadLine

abbrev pub standing_in : List (List ℕ) → Result KeytabWords Refusal
standing_in words = unless_optioned addition_by (plain_words words)

-- ---- `ktadd [-e LIST] NAME`, which makes new keys

-- the types of keys where none are listed
unfoldable pub default_etypes : List Etype
default_etypes = Aes256 ∷ Aes128 ∷ []

-- the words are judged before the list
abbrev pub renewal_with : Option (List Etype) → List ℕ → Result KeytabWords Refusal
renewal_with None word = Err (BadValue Enctypes)
renewal_with (Some etypes) word = Ok (AddRenewed word etypes)

abbrev pub renewal_of : Option (List Etype) → List ℕ → Result KeytabWords Refusal
renewal_of etypes word = if nat_le (length word) longest_word then renewal_with etypes word else Err BadLine

unfoldable pub renewal_by : Option (List Etype) → List (List ℕ) → Result KeytabWords Refusal
renewal_by etypes (word ∷ []) = renewal_of etypes word
renewal_by etypes _ = Err BadLine

abbrev pub renewal_in : Option (List Etype) → List (List ℕ) → Result KeytabWords Refusal
renewal_in etypes words = unless_optioned (renewal_by etypes) (plain_words words)

unfoldable pub listed_in : List (List ℕ) → Result KeytabWords Refusal
listed_in [] = Err BadLine
listed_in (list ∷ words) = renewal_in (etypes_in list) words

-- the option stands first, and there is one at most
unfoldable pub ktadd_in : List (List ℕ) → Result KeytabWords Refusal
ktadd_in [] = Err BadLine
ktadd_in (word ∷ words) =
    if bytes_eq word (codes "-norandkey") then standing_in words
    else if bytes_eq word (codes "-e") then listed_in words
    else renewal_in (Some default_etypes) (word ∷ words)

-- ---- what is read

-- types of keys that may be made: some, and each once
pub record AreTypes (etypes : List Etype) : Type 0 where
  pub some : etypes ≢ []
  pub once : AreOnce etypes

-- a name that is a word still, and types of keys for it
pub record IsRenewable (word : List ℕ) (etypes : List Etype) : Type 0 where
  pub short : length word ≤ longest_word
  pub types : AreTypes etypes

-- a name that is a word still is no longer than it may be
abbrev pub AreValid : Result KeytabWords Refusal → Type 0
AreValid (Ok (AddStanding word)) = length word ≤ longest_word
AreValid (Ok (AddRenewed word etypes)) = IsRenewable word etypes
AreValid (Ok (Remove name which)) = Unit {0}
AreValid (Err refusal) = Unit {0}
