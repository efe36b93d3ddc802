-- How words come to options, one by one.
use Rattle.std.specs.Prelude.{ℕ, ◌≡◌, List, [], ◌∷◌, ◌++◌, drop, Option, Some, None}
use Rattle.kadm_options.specs.Options.{OptionParts, joined, options_from}
use Rattle.kadm_options.specs.declared.arguments.LeadingOptions.{LeadingOptions}
use Rattle.kadm_options.specs.declared.arguments.Reader.{Reader}
use Rattle.kadm_options.specs.declared.arguments.Step.{Step}
use Rattle.kadm_options.specs.declared.arguments.Step.TheVariants.{Taken, Broken, Ended}
use Rattle.kadm_options.specs.declared.options.Given.{Given}
use Rattle.kadm_options.specs.declared.options.Given.TheVariants as given
use Rattle.kadm_options.specs.declared.options.Opening.{Opening}
use Rattle.kadm_options.specs.declared.options.Opening.TheVariants as opening
use Rattle.kadm_options.specs.declared.options.Setting.{Setting}

-- the options, and what is left of the words behind theirs
abbrev pub parts_of : List (List ℕ) → LeadingOptions → OptionParts
parts_of words found = record { options = found.options.items; rest = drop found.count words }

-- what a word adds, and the option that it leaves waiting for its value
abbrev pub options_of : Opening → List Given
options_of (opening.Flag change) = given.Flag change ∷ []
options_of (opening.Alone option) = given.Alone option ∷ []
options_of (opening.Value setting) = []

abbrev pub pending_of : Opening → Option Setting
pending_of (opening.Flag change) = None
pending_of (opening.Alone option) = None
pending_of (opening.Value setting) = Some setting

abbrev pub parts_with : (List ℕ → Option Opening) → Reader → List (List ℕ) → Option OptionParts
parts_with named r words = joined r.options.items (options_from named r.pending words)

-- whatever words follow, the parts stay the same
pub record IsTaken (named : List ℕ → Option Opening) (word : List ℕ) (old new : Reader) : Type 0 where
  pub same : (words : List (List ℕ)) → parts_with named new words ≡ parts_with named old (word ∷ words)

pub record IsBroken (named : List ℕ → Option Opening) (word : List ℕ) (old : Reader) : Type 0 where
  pub none : (words : List (List ℕ)) → parts_with named old (word ∷ words) ≡ None

-- the options have ended before the word
pub record EndsBefore (named : List ℕ → Option Opening) (word : List ℕ) (old new : Reader) : Type 0 where
  pub ends : (words : List (List ℕ))
      → parts_with named old (word ∷ words) ≡ Some (record { options = new.options.items; rest = word ∷ words })

abbrev pub Steps : (List ℕ → Option Opening) → List ℕ → Reader → Reader → Step → Type 0
Steps named word old new Taken = IsTaken named word old new
Steps named word old new Broken = IsBroken named word old
Steps named word old new Ended = EndsBefore named word old new
