-- What the words of a replica's run ask for: its name, how many rounds, and the size of its log.
use Rattle.std.specs.Prelude.{ℕ, ◌≡◌, ◌≤◌, List, [], ◌∷◌, length, Option, Some, None, option_map, Result, Ok, Err}
use Rattle.kadm_options.specs.OptionValues.{SpellsWithin, number_within}
use Rattle.keytab_words.specs.Words.{whole_name_in}
use Rattle.kprop_runs.specs.declared.words.Asked.{Asked}
use Rattle.princ_name.specs.Names.{IsName, NameParts, printed}
use Rattle.princ_name.specs.Spelling.{SpellsText, SpellsWithRealm}

abbrev pub most_rounds : ℕ
most_rounds = 4294967295

-- the least and the greatest size of a log
abbrev pub least_size : ℕ
least_size = 2

abbrev pub most_size : ℕ
most_size = 10000

-- ---- as functions

abbrev pub named_by : Result NameParts ℕ → Option NameParts
named_by (Ok name) = Some name
named_by (Err place) = None

-- the name that a word spells with its realm, in its printed form
abbrev pub client_in : List ℕ → Option (List ℕ)
client_in word = option_map printed (named_by (whole_name_in word))

abbrev pub asks : ℕ → ℕ → List ℕ → Asked
asks rounds size name = record { name = name; rounds = rounds; size = size }

abbrev pub asked_by : Option ℕ → Option ℕ → Option (List ℕ) → Option Asked
asked_by None size name = None
asked_by (Some rounds) None name = None
asked_by (Some rounds) (Some size) name = option_map (asks rounds size) name

-- the name, the number of rounds and the size; none where other words stand there
unfoldable pub asked_in : List (List ℕ) → Option Asked
asked_in (name ∷ rounds ∷ size ∷ []) =
    asked_by (number_within 0 most_rounds rounds) (number_within least_size most_size size) (client_in name)
asked_in _ = None

-- ---- as a relation

pub record AskFor (words : List (List ℕ)) (a : Asked) : Type 0 where
  pub name : List ℕ
  pub rounds : List ℕ
  pub size : List ℕ
  pub words_are : words ≡ name ∷ rounds ∷ size ∷ []
  -- any spelling of a name with its realm
  pub client : NameParts
  pub spelled : SpellsWithRealm SpellsText name client.parts client.realm
  pub is_name : IsName client
  pub name_is : a.name ≡ printed client
  pub rounds_are : SpellsWithin 0 most_rounds rounds a.rounds
  pub size_is : SpellsWithin least_size most_size size a.size

-- what is read is within its range
pub record IsAsked (a : Asked) : Type 0 where
  pub name : length a.name ≤ 255
  pub low : least_size ≤ a.size
  pub high : a.size ≤ most_size
