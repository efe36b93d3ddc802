-- The shape of a command's words: the command, its options and its other words.
use Rattle.std.specs.Prelude.{ℕ, ◌≡◌, ◌⊎◌, Bool, false, List, [], ◌∷◌, codes}
use Rattle.std.specs.Prelude.{Option, Some, None, option_map, if◌then◌else◌}
use Rattle.kadm_options.specs.Options.{OptionParts, SpellsOptions, is_dashes, is_signed, options_in}
use Rattle.kadm_options.specs.declared.options.Given.{Given}
use Rattle.kadm_wire.specs.Verbs.{named_by, verb_named}
use Rattle.kadm_wire.specs.declared.verbs.Verb.{Verb}

-- no option stands first
unfoldable pub BeginsPlain : List (List ℕ) → Type 0
BeginsPlain [] = Unit {0}
BeginsPlain (word ∷ words) = is_signed word ≡ false

-- two dashes and the other words, or the other words alone
abbrev pub SpellsOthers : List (List ℕ) → List (List ℕ) → Type 0
SpellsOthers others words = (words ≡ codes "--" ∷ others) ⊎ ((words ≡ others) × BeginsPlain others)

-- a command, its options in the order of the line, and its other words
pub record Shape : Type 0 where
  pub verb : Verb
  pub options : List Given
  pub others : List (List ℕ)

pub record SpellsShape (shape : Shape) (words : List (List ℕ)) : Type 0 where
  pub word : List ℕ
  pub arguments : List (List ℕ)
  pub rest : List (List ℕ)
  pub words_are : words ≡ word ∷ arguments
  pub verb : verb_named word ≡ Some shape.verb
  pub options : SpellsOptions (named_by shape.verb) shape.options rest arguments
  pub others : SpellsOthers shape.others rest

-- the other words, as a function of the words behind the options
unfoldable pub others_in : List (List ℕ) → List (List ℕ)
others_in [] = []
others_in (word ∷ words) = if is_dashes word then words else word ∷ words

abbrev pub shape_with : Verb → OptionParts → Shape
shape_with verb parts = record { verb = verb; options = parts.options; others = others_in parts.rest }

-- the shape of a command and the words behind it
abbrev pub shape_behind : Verb → List (List ℕ) → Option Shape
shape_behind verb words = option_map (shape_with verb) (options_in (named_by verb) words)

abbrev pub shape_by : Option Verb → List (List ℕ) → Option Shape
shape_by None words = None
shape_by (Some verb) words = shape_behind verb words

-- the shape of words, or none where these words spell no command
unfoldable pub shape_in : List (List ℕ) → Option Shape
shape_in [] = None
shape_in (word ∷ words) = shape_by (verb_named word) words
