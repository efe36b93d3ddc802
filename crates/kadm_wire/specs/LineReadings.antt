-- What a line says, as a function of its bytes.
use Rattle.std.specs.Prelude.{ℕ, Bool, false, ◌==◌, nat_le, nat_lt, if◌then◌else◌, List}
use Rattle.std.specs.Prelude.{[], ◌∷◌, length, Option, Some, None, Result, Ok, Err}
use Rattle.std.specs.List.{list_all}
use Rattle.kadm_commands.specs.declared.commands.Command.{Command}
use Rattle.kadm_commands.specs.declared.commands.Command.TheVariants as command
use Rattle.kadm_options.specs.OptionValues.{first_bad_in, number_within}
use Rattle.kadm_options.specs.declared.options.Given.{Given}
use Rattle.kadm_words.specs.Splitting.{words_in}
use Rattle.kdb_base.specs.declared.outcomes.Field.TheVariants.{Glob, Key, Mkvno, Policy, Time, Value}
use Rattle.kdb_base.specs.declared.outcomes.Refusal.{Refusal}
use Rattle.kdb_base.specs.declared.outcomes.Refusal.TheVariants.{BadLine, LineTooLong}
use Rattle.policy_rules.specs.Names.{is_policy_name}
use Rattle.princ_name.specs.Readings.{own_name_in}
use Rattle.tagged_data.specs.Strings.{is_string_key, is_string_value}
use Rattle.kadm_wire.specs.Commands.{lone_command, names_command, policy_command, princ_command}
use Rattle.kadm_wire.specs.Lines.{longest_line}
use Rattle.kadm_wire.specs.Reads.{activation_in, is_glob_word, unless_bad, when_good, whole_glob, with_name, with_value}
use Rattle.kadm_wire.specs.Shapes.{Shape, shape_in}
use Rattle.kadm_wire.specs.Verbs.{is_whole}
use Rattle.kadm_wire.specs.declared.readings.Reading.{Reading}
use Rattle.kadm_wire.specs.declared.readings.Reading.TheVariants.{Skipped, Says, Refuses}
use Rattle.kadm_wire.specs.declared.verbs.PrincVerb.{PrincVerb}
use Rattle.kadm_wire.specs.declared.verbs.PolicyVerb.{PolicyVerb}
use Rattle.kadm_wire.specs.declared.verbs.NamesVerb.{NamesVerb}
use Rattle.kadm_wire.specs.declared.verbs.LoneVerb.{LoneVerb}
use Rattle.kadm_wire.specs.declared.verbs.Verb.{Verb}
use Rattle.kadm_wire.specs.declared.verbs.Verb.TheVariants as verb

-- ---- commands

unfoldable pub princ_reading : List ℕ → PrincVerb → List Given → List ℕ → Reading
princ_reading realm v options word =
    with_name (own_name_in word realm) (λ name. unless_bad (first_bad_in options) (Says (princ_command v options name)))

unfoldable pub rename_reading : List ℕ → List ℕ → List ℕ → Reading
rename_reading realm word new =
    with_name (own_name_in word realm) (λ name. with_name (own_name_in new realm) (λ new_name.
    Says (command.RenPrinc (record { name = name; new_name = new_name }))))

unfoldable pub set_reading : List ℕ → List ℕ → List ℕ → List ℕ → Reading
set_reading realm word key value =
    with_name (own_name_in word realm)
    (λ name. when_good (is_string_key key) Key (when_good (is_string_value value) Value
    (Says (command.SetString (record { name = name; key = key; value = value })))))

unfoldable pub delete_reading : List ℕ → List ℕ → List ℕ → Reading
delete_reading realm word key =
    with_name (own_name_in word realm)
    (λ name. when_good (is_string_key key) Key (Says (command.DelString (record { name = name; key = key }))))

unfoldable pub policy_reading : PolicyVerb → List Given → List ℕ → Reading
policy_reading v options word =
    unless_bad (first_bad_in options) (when_good (is_policy_name word) Policy (Says (policy_command v options word)))

unfoldable pub names_reading : List ℕ → NamesVerb → List ℕ → Reading
names_reading realm v word = when_good (is_glob_word word) Glob (Says (names_command v (Some (whole_glob realm word))))

abbrev pub use_says : ℕ → Option ℕ → Reading
use_says version secs = Says (command.UseMaster (record { version = version; secs = secs }))

unfoldable pub use_reading : List ℕ → Reading
use_reading word = with_value (number_within 1 65535 word) Mkvno (λ version. use_says version None)

unfoldable pub use_from_reading : List ℕ → List ℕ → Reading
use_from_reading word time =
    with_value (number_within 1 65535 word) Mkvno
    (λ version. with_value (activation_in time) Time (λ secs. use_says version (Some secs)))

unfoldable pub lone_reading : LoneVerb → List Given → Reading
lone_reading v options = unless_bad (first_bad_in options) (Says (lone_command v options))

-- by the other words; missing or extra ones make it no command
unfoldable pub command_reading : List ℕ → Verb → List Given → List (List ℕ) → Reading
command_reading realm (verb.OnPrinc v) options (word ∷ []) = princ_reading realm v options word
command_reading realm (verb.OnPolicy v) options (word ∷ []) = policy_reading v options word
command_reading realm (verb.OnNames v) options [] = Says (names_command v None)
command_reading realm (verb.OnNames v) options (word ∷ []) = names_reading realm v word
command_reading realm (verb.Alone v) options [] = lone_reading v options
command_reading realm verb.RenPrinc options (word ∷ new ∷ []) = rename_reading realm word new
command_reading realm verb.SetString options (word ∷ key ∷ value ∷ []) = set_reading realm word key value
command_reading realm verb.DelString options (word ∷ key ∷ []) = delete_reading realm word key
command_reading realm verb.UseMaster options (word ∷ []) = use_reading word
command_reading realm verb.UseMaster options (word ∷ time ∷ []) = use_from_reading word time
command_reading realm v options words = Refuses BadLine

abbrev pub whole_reading : List ℕ → Verb → List Given → List (List ℕ) → Reading
whole_reading realm verb options others = if is_whole verb options then command_reading realm verb options others
    else Refuses BadLine

abbrev pub shape_reading : List ℕ → Option Shape → Reading
shape_reading realm None = Refuses BadLine
shape_reading realm (Some shape) = whole_reading realm shape.verb shape.options shape.others

-- a line of these words
unfoldable pub words_reading : List ℕ → List (List ℕ) → Reading
words_reading realm [] = Skipped
words_reading realm (word ∷ words) = shape_reading realm (shape_in (word ∷ words))

-- ---- lines

unfoldable pub is_comment : List ℕ → Bool
is_comment [] = false
is_comment (byte ∷ rest) = byte == 35

-- words, or a line that no words spell
abbrev pub split_reading : List ℕ → Option (List (List ℕ)) → Reading
split_reading realm None = Refuses BadLine
split_reading realm (Some words) = words_reading realm words

-- what is read from a line in a database of this realm
unfoldable pub line_reading : List ℕ → List ℕ → Reading
line_reading realm line =
    if nat_lt longest_line (length line) then Refuses LineTooLong
    else (if is_comment line then Skipped else split_reading realm (words_in line))

abbrev pub answer : Reading → Result (Option Command) Refusal
answer Skipped = Ok None
answer (Says command) = Ok (Some command)
answer (Refuses refusal) = Err refusal

-- the command of a line, or none where the line is passed over, or why it is refused
unfoldable pub reading : List ℕ → List ℕ → Result (Option Command) Refusal
reading realm line = answer (line_reading realm line)

-- ---- words that no line spells

-- no word is longer than a line may be
unfoldable pub are_short : List (List ℕ) → Bool
are_short words = list_all (λ word. nat_le (length word) longest_line) words

-- the command of such words, or none where there are none, or why they are refused
unfoldable pub words_answer : List ℕ → List (List ℕ) → Result (Option Command) Refusal
words_answer realm words = if are_short words then answer (words_reading realm words) else Err BadLine
