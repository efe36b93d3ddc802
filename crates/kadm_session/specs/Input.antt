-- What the lines of an input ask for, in a database of a realm.
use Rattle.std.specs.Prelude.{ℕ, ◌==◌, ◌≡◌, ◌||◌, Bool, true, false, List, [], ◌∷◌, Option}
use Rattle.std.specs.Prelude.{Some, None, Result, Ok, Err, map, option_map, if◌then◌else◌}
use Rattle.kadm_commands.specs.Commands.{IsCommand}
use Rattle.kadm_commands.specs.declared.commands.Command.{Command}
use Rattle.kadm_commands.specs.declared.commands.Command.TheVariants as command
use Rattle.kadm_lines.specs.Lines.{Seen}
use Rattle.primary_core.specs.Deciding.{is_judged}
use Rattle.kadm_session.specs.declared.intake.Asked.{Asked}
use Rattle.kadm_session.specs.declared.intake.Asked.TheVariants.{Nothing, Refused, Does, Rekeys, ResetsLog, WritesDump}
use Rattle.kadm_wire.specs.LineReadings.{reading}
use Rattle.kdb_base.specs.declared.outcomes.Refusal.{Refusal}
use Rattle.kdb_base.specs.declared.outcomes.Refusal.TheVariants.{BadLine, LineTooLong}

-- the bytes without one carriage return at their end
unfoldable pub without_return : List ℕ → List ℕ
without_return [] = []
without_return (byte ∷ []) = if byte == 13 then [] else byte ∷ []
without_return (byte ∷ next ∷ bytes) = byte ∷ without_return (next ∷ bytes)

-- a carriage return belongs to the line feed behind it, and without one it is a byte of the line
abbrev pub line_bytes : List ℕ → Bool → List ℕ
line_bytes text ended = if ended then without_return text else text

abbrev pub is_stash : Command → Bool
is_stash command.Stash = true
is_stash other = false

-- one event of a primary: what is judged, and the stash written anew
abbrev pub is_event : Command → Bool
is_event asked = is_judged asked || is_stash asked

-- A rekeying of many is an event for each of them, and a dump is none. Each other command is one event of a primary.
abbrev pub asked_else : Command → Asked
asked_else (command.RekeyPrincs glob) = Rekeys glob
asked_else command.Dump = WritesDump
asked_else other = Refused BadLine

abbrev pub asked_for : Command → Asked
asked_for asked = if is_event asked then Does asked else asked_else asked

abbrev pub asked_by : Result (Option Command) Refusal → Asked
asked_by (Ok (Some command)) = asked_for command
asked_by (Ok None) = Nothing
asked_by (Err refusal) = Refused refusal

-- a line without a text is too long
abbrev pub asked_by_text : List ℕ → Bool → Option (List ℕ) → Asked
asked_by_text realm ended None = Refused LineTooLong
asked_by_text realm ended (Some text) = asked_by (reading realm (line_bytes text ended))

unfoldable pub asked_in : List ℕ → Seen → Asked
asked_in realm line = asked_by_text realm line.ended line.text

abbrev pub commands_in : List ℕ → Option (List Seen) → Option (List Asked)
commands_in realm lines = option_map (map (asked_in realm)) lines

-- a command is one that a line of this realm can give, and one event of a primary
pub record IsLineCommand (realm : List ℕ) (command : Command) : Type 0 where
  pub command_is : IsCommand realm command
  pub event : is_event command ≡ true

abbrev pub IsAsked : List ℕ → Asked → Type 0
IsAsked realm Nothing = Unit {0}
IsAsked realm (Refused refusal) = Unit {0}
IsAsked realm (Does command) = IsLineCommand realm command
IsAsked realm (Rekeys glob) = Unit {0}
IsAsked realm ResetsLog = Unit {0}
IsAsked realm WritesDump = Unit {0}

abbrev pub is_dump : Asked → Bool
is_dump WritesDump = true
is_dump other = false
