-- Lines of administrators, and what is read from them.
use Rattle.std.specs.Prelude.{ℕ, ◌≡◌, ◌<◌, ◌≤◌, ◌⊎◌, true, false, List, [], ◌∷◌, length, Option, Some, None}
use Rattle.kadm_commands.specs.declared.commands.Command.TheVariants as command
use Rattle.kadm_options.specs.OptionValues.{SpellsWithin}
use Rattle.kadm_options.specs.declared.options.Given.{Given}
use Rattle.kadm_words.specs.Words.{SpellsWords}
use Rattle.kdb_base.specs.declared.outcomes.Field.TheVariants.{Glob, Key, Mkvno, Policy, Time, Value}
use Rattle.kdb_base.specs.declared.outcomes.Refusal.TheVariants.{BadLine, LineTooLong}
use Rattle.policy_rules.specs.Names.{is_policy_name}
use Rattle.tagged_data.specs.Strings.{is_string_key, is_string_value}
use Rattle.kadm_wire.specs.Commands.{lone_command, names_command, policy_command, princ_command}
use Rattle.kadm_wire.specs.Reads.{IfGood, IfNamed, IfReadable, IfSpelled, SpellsActivation, is_glob_word, whole_glob}
use Rattle.kadm_wire.specs.Shapes.{Shape, SpellsShape}
use Rattle.kadm_wire.specs.Verbs.{is_whole}
use Rattle.kadm_wire.specs.declared.readings.Reading.{Reading}
use Rattle.kadm_wire.specs.declared.readings.Reading.TheVariants.{Skipped, Says, Refuses}
use Rattle.kadm_wire.specs.declared.verbs.Verb.{Verb}
use Rattle.kadm_wire.specs.declared.verbs.Verb.TheVariants as verb

-- the most bytes of a line
abbrev pub longest_line : ℕ
longest_line = 65536

-- ---- commands

abbrev pub Is : Reading → Reading → Type 0
Is what reading = reading ≡ what

-- what is read of a command from its options and other words: names first, then the values of options, then other
-- values, each kind from the left. A line with missing or extra words is none
unfoldable pub Gives : List ℕ → Verb → List Given → List (List ℕ) → Reading → Type 0
Gives realm (verb.OnPrinc v) options (word ∷ []) =
    IfNamed realm word (λ name. IfReadable options (Is (Says (princ_command v options name))))
Gives realm verb.RenPrinc options (word ∷ new ∷ []) =
    IfNamed realm word
    (λ name. IfNamed realm new (λ new_name. Is (Says (command.RenPrinc (record { name = name; new_name = new_name })))))
Gives realm verb.SetString options (word ∷ key ∷ value ∷ []) =
    IfNamed realm word (λ name. IfGood (is_string_key key) Key (IfGood (is_string_value value) Value
    (Is (Says (command.SetString (record { name = name; key = key; value = value }))))))
Gives realm verb.DelString options (word ∷ key ∷ []) =
    IfNamed realm word
    (λ name. IfGood (is_string_key key) Key (Is (Says (command.DelString (record { name = name; key = key })))))
Gives realm (verb.OnPolicy v) options (word ∷ []) =
    IfReadable options (IfGood (is_policy_name word) Policy (Is (Says (policy_command v options word))))
Gives realm (verb.OnNames v) options [] = Is (Says (names_command v None))
Gives realm (verb.OnNames v) options (word ∷ []) =
    IfGood (is_glob_word word) Glob (Is (Says (names_command v (Some (whole_glob realm word)))))
Gives realm verb.UseMaster options (word ∷ []) =
    IfSpelled (SpellsWithin 1 65535 word) Mkvno
    (λ version. Is (Says (command.UseMaster (record { version = version; secs = None }))))
Gives realm verb.UseMaster options (word ∷ time ∷ []) =
    IfSpelled (SpellsWithin 1 65535 word) Mkvno (λ version. IfSpelled (SpellsActivation time) Time (λ secs.
    Is (Says (command.UseMaster (record { version = version; secs = Some secs })))))
Gives realm (verb.Alone v) options [] = IfReadable options (Is (Says (lone_command v options)))
Gives realm v options words = Is (Refuses BadLine)

-- options that exclude each other, or the want of one, make it no command
abbrev pub GivesWhole : List ℕ → Shape → Reading → Type 0
GivesWhole realm shape reading =
    ((is_whole shape.verb shape.options ≡ true) × Gives realm shape.verb shape.options shape.others reading)
    ⊎ ((is_whole shape.verb shape.options ≡ false) × (reading ≡ Refuses BadLine))

-- ---- lines

-- a line that begins with #
pub record IsComment (line : List ℕ) : Type 0 where
  pub rest : List ℕ
  pub line_is : line ≡ 35 ∷ rest

-- a comment, or a line without words
abbrev pub IsSkipped : List ℕ → Type 0
IsSkipped line = IsComment line ⊎ SpellsWords [] line

pub record IsLong (line : List ℕ) (reading : Reading) : Type 0 where
  pub long : longest_line < length line
  pub reading_is : reading ≡ Refuses LineTooLong

pub record IsPassedOver (line : List ℕ) (reading : Reading) : Type 0 where
  pub short : length line ≤ longest_line
  pub skipped : IsSkipped line
  pub reading_is : reading ≡ Skipped

-- the words of the line spell this shape
pub record SpellsLine (shape : Shape) (line : List ℕ) : Type 0 where
  pub words : List (List ℕ)
  pub words_spelled : SpellsWords words line
  pub shape_spelled : SpellsShape shape words

-- the line has a command's length, and is not passed over
pub record IsLine (line : List ℕ) : Type 0 where
  pub short : length line ≤ longest_line
  pub said : IsSkipped line → ⊥

-- a line of a command
pub record IsOfCommand (realm line : List ℕ) (reading : Reading) : Type 0 where
  pub is_line : IsLine line
  pub shape : Shape
  pub spelled : SpellsLine shape line
  pub gives : GivesWhole realm shape reading

-- no command spells the line
pub record IsOfNone (line : List ℕ) (reading : Reading) : Type 0 where
  pub is_line : IsLine line
  pub none : (shape : Shape) → SpellsLine shape line → ⊥
  pub reading_is : reading ≡ Refuses BadLine

-- what is read from a line, in a database of this realm
abbrev pub IsReading : List ℕ → List ℕ → Reading → Type 0
IsReading line realm reading =
    (IsLong line reading ⊎ IsPassedOver line reading) ⊎ (IsOfCommand realm line reading ⊎ IsOfNone line reading)
