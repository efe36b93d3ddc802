-- A primary as it is kept in memory, and what its calls say of the disk.
use Rattle.std.specs.Prelude.{ℕ, ◌≡◌, ◌≤◌, true, false, List, [], Option, Some, None, Ok, unwrap_or}
use Rattle.acl_text.specs.declared.rules.AclLine.{AclLine}
use Rattle.cell_files.specs.NewFiles.{file_text}
use Rattle.kadm_commands.specs.declared.commands.Command.{Command}
use Rattle.kadm_commands.specs.declared.replies.Reply.{Reply}
use Rattle.kdb_base.specs.Moment.{Moment}
use Rattle.kdb_base.specs.declared.moments.Point.{Point}
use Rattle.kdb_base.specs.declared.versions.Master.{Master}
use Rattle.kdb_disk.specs.Files.{Files}
use Rattle.kdb_disk.specs.View.{View}
use Rattle.kdb_histories.specs.Asks.{Answer, Ask, Commanded, Replied}
use Rattle.command_plans.specs.Given.{IsApplied}
use Rattle.kdb_histories.specs.Calls.{Call, HasTimeLeft, Performs}
use Rattle.kdb_histories.specs.Leaving.{MayReach}
use Rattle.kdb_histories.specs.Moves.{IsLeft}
use Rattle.kdb_histories.specs.Seen.{changed, entry_point, is_due, outcome_at, seen}
use Rattle.kdb_histories.specs.Stages.{ShowsAt, Stage}
use Rattle.kdb_model.specs.Calls.{call_of}
use Rattle.kdb_places.specs.Places.{Place}
use Rattle.kdb_plain.specs.declared.states.State.{State}
use Rattle.primary_core.specs.declared.decided.DecidedChange.{DecidedChange}
use Rattle.princ_name.specs.Names.{NameParts}
use Rattle.store_files.specs.Found.{recovers}
use Rattle.store_files.specs.Kept.{Kept, place_kept}

-- The database, the master keys by which its rows are read, the dumps that are under way, and how many may be.
pub record Opened : Type 0 where
  pub kept : Kept
  pub masters : List Master
  pub dumps : ℕ
  pub room : ℕ

abbrev pub place_of : Opened → Place
place_of o = place_kept o.kept

-- The rows show the state, whose master keys are those that were found.
pub record HasState (o : Opened) (s : State) : Type 0 where
  pub shows : ShowsAt (place_of o) s
  pub masters_are : s.masters ≡ o.masters

-- the rows of the place show a state with these master keys
pub record IsShown (p : Place) (masters : List Master) : Type 0 where
  pub state : State
  pub shows : ShowsAt p state
  pub masters_are : state.masters ≡ masters

-- There is such a state, the files are of format 2, there are 1 to 16 places for dumps, and no more dumps than places.
pub record IsOpened (o : Opened) : Type 0 where
  pub state : State
  pub has : HasState o state
  pub newer : o.kept.control.format ≡ 2
  pub from : 1 ≤ o.room
  pub upto : o.room ≤ 16
  pub within : o.dumps ≤ o.room

-- the files recover to a place to which the call may have come
pub record MayLeave (p : Place) (s : State) (call : Call) (c : Files) : Type 0 where
  pub place : Place
  pub is : recovers c ≡ Ok place
  pub may : MayReach p s call place

-- The file of cells that is in force was written whole, in format 2: behind the unit of the realm the rows stand one
-- behind the other, in their order.
abbrev pub IsWrittenAnew : View → Kept → Point → Type 0
IsWrittenAnew now k base = now.seen k.control.image ≡ file_text 2 k.realm base k.rows

-- a command as it is asked of the primary
abbrev pub command_ask : NameParts → Option (List AclLine) → Command → Moment → List ℕ → Ask
command_ask client access command clock random = Commanded (call_of client access command clock random false)

-- ---- what a command comes to

-- the places of a change, or none
abbrev pub made_for : Ask → Option DecidedChange → Place → List Stage
made_for ask None p = []
made_for ask (Some change) p = changed ask change.op p

-- the master keys that a change brings, where it does
abbrev pub masters_brought : Option DecidedChange → Option (List Master)
masters_brought None = None
masters_brought (Some change) = change.masters

-- the master keys behind a change: those that it brings, or the ones before
abbrev pub masters_behind : Opened → Option (List Master) → List Master
masters_behind o brought = unwrap_or brought o.masters

-- The state after the change, with the master keys behind it.
pub record LeadsOn (o : Opened) (clock : Moment) (change : DecidedChange) : Type 0 where
  pub state : State
  pub is : IsLeft (place_of o).realm (entry_point clock change.op (place_of o)) change.op (place_of o).rows state
  pub masters_are : state.masters ≡ masters_behind o change.masters

-- The change may be made of what is kept: it has a spelling and its rows fit, a later time is left where the log is to
-- begin anew, and the rows show a state again.
pub record MayMake (o : Opened) (clock : Moment) (change : DecidedChange) : Type 0 where
  pub applied : IsApplied o.kept.rows change.op
  pub left : is_due change.op (place_of o) ≡ true → HasTimeLeft (place_of o)
  pub leads : (s : State) → HasState o s → LeadsOn o clock change

-- This is answered, and this change is to be made first, where there is one: the step's own, of the state that the rows
-- show. The master keys behind the step are those behind the change.
pub record IsAnswered (o : Opened) (ask : Ask) (answer : Answer) (change : Option DecidedChange) : Type 0 where
  pub performs : (s : State) → HasState o s → Performs (place_of o) s ask answer (made_for ask change (place_of o))
  pub masters : (s : State) → HasState o s
      → (outcome_at ask (seen (place_of o) s)).state.masters ≡ masters_behind o (masters_brought change)

-- the same of a command, by its reply
abbrev pub IsDecided : Opened → Ask → Reply → Option DecidedChange → Type 0
IsDecided o ask reply change = IsAnswered o ask (Replied reply) change
