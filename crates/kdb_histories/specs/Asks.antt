-- What a primary is asked, and what that comes to in a state of which its rows are told too.
use Rattle.std.specs.Prelude.{ℕ, Bool, false, List, Option, Some, None, is_some}
use Rattle.std.specs.Prelude.{if◌then◌else◌, option_map, option_and_then}
use Rattle.std.specs.Option.{option_or}
use Rattle.mkey_admin.specs.KeptEntries.{kept_entry}
use Rattle.kadm_commands.specs.declared.commands.Command.{Command}
use Rattle.kadm_commands.specs.declared.commands.Command.TheVariants as command
use Rattle.kadm_commands.specs.declared.replies.Reply.{Reply}
use Rattle.kdb_base.specs.Key.{Key}
use Rattle.kdb_base.specs.Moment.{Moment}
use Rattle.kdb_base.specs.declared.outcomes.Refusal.{Refusal}
use Rattle.kdb_model.specs.Calls.{Call}
use Rattle.kdb_model.specs.Entries.{entry}
use Rattle.kdb_model.specs.Laws.{told}
use Rattle.kdb_model.specs.Refusals.{refusal}
use Rattle.kdb_model.specs.Rekeying as model
use Rattle.kdb_model.specs.Rekeying.{At, Rekeyed, Updated, Already, Gone, Refused, Stored}
use Rattle.kdb_model.specs.Rekeying.{SettledGone, Changed, NotStored, Work, active_at, rekey, settle}
use Rattle.kdb_model.specs.Steps.{step}
use Rattle.kdb_plain.specs.States.{master_of, princ_named}
use Rattle.kdb_plain.specs.declared.princs.PlainPrinc.{PlainPrinc}
use Rattle.kdb_plain.specs.declared.states.State.{State}
use Rattle.mkey_admin.specs.KeptMasters.{kept_masters}
use Rattle.princ_rows.specs.declared.entries.Op.{Op}
use Rattle.princ_rows.specs.declared.entries.Op.TheVariants as op
use Rattle.princ_name.specs.Names.{NameParts, printed}
use Rattle.princ_record.specs.declared.princs.Princ.{Princ}
use Rattle.princ_rows.specs.Rows.{RowLists}
use Rattle.rekey_work.specs.declared.works.Settled.{Settled}
use Rattle.rekey_work.specs.declared.works.Settled.TheVariants as settled
use Rattle.row_keys.specs.Lookups.{record_named}
use Rattle.row_keys.specs.Wraps.{wrapped_items}

-- A command, one principal rekeyed wholly under the lock, or the work that comes back of one that was taken. Each has
-- what the clock says. Whether a change is to start the log anew is told apart, as a fact of the place.
pub data Ask : Type 0 where
  Commanded : (call : Call) → Ask
  RekeyedNow : (name : NameParts) (clock : Moment) (random : List ℕ) → Ask
  Settles : (name : NameParts) (clock : Moment) (work : Work) → Ask

pub data Answer : Type 0 where
  Replied : (reply : Reply) → Answer
  Moved : (settled : Settled) → Answer
  NotMoved : (why : Refusal) → Answer

abbrev pub clock_of : Ask → Moment
clock_of (Commanded call) = call.moment
clock_of (RekeyedNow name clock random) = clock
clock_of (Settles name clock work) = clock

abbrev pub at_clock : Moment → Bool → At
at_clock clock due = record { clock = clock; due = due }

-- ---- the state after it

abbrev pub moved_state : State → Rekeyed → State
moved_state s (Updated after) = after
moved_state s Already = s
moved_state s Gone = s
moved_state s (Refused why) = s

-- The state after an accepted change. Work that is stored does what a rekeying does.
unfoldable pub state_by : Ask → Bool → State → State
state_by (Commanded call) due s = (step s (told due call)).state
state_by (RekeyedNow name clock random) due s = moved_state s (rekey s name (at_clock clock due))
state_by (Settles name clock work) due s = moved_state s (rekey s name (at_clock clock due))

-- ---- the change of rows, exactly

-- the record under a version's key, each of its keys with the confounder of its place in the bytes
abbrev pub rewrapped : ℕ → Key → List ℕ → PlainPrinc → Princ → Princ
rewrapped version fresh random q p = record p { mkvno = version; keys = wrapped_items fresh false random q.keys }

unfoldable pub kept_rekeying : RowLists → State → NameParts → Moment → List ℕ → Option Op
kept_rekeying rows s name clock random =
    option_and_then (λ (version : ℕ).
    option_and_then (λ (fresh : Key).
    option_and_then (λ (q : PlainPrinc).
    option_map (λ (p : Princ). op.PutPrinc (rewrapped version fresh random q p))
    (record_named (printed name) rows.princs))
    (princ_named (printed name) s.princs))
    (master_of s.masters version))
    (active_at s (at_clock clock false))

-- The change of a command: of K/M's record where it is one of master keys, of which `kept_entry` says nothing.
abbrev pub kept_commanded : RowLists → State → Call → Option Op
kept_commanded rows s call = option_or (kept_entry rows s call) (kept_masters rows s call)

-- The change of rows that the ask would make, were it accepted.
unfoldable pub kept_op : RowLists → State → Ask → Option Op
kept_op rows s (Commanded call) = kept_commanded rows s call
kept_op rows s (RekeyedNow name clock random) = kept_rekeying rows s name clock random
kept_op rows s (Settles name clock work) = Some (op.PutPrinc work.made)

-- ---- what it comes to

-- nothing is changed, an entry is made, or the stash is written
pub data Kind : Type 0 where
  Keeps : Kind
  Enters : Kind
  Stashes : Kind

pub record Outcome : Type 0 where
  pub state : State
  pub answer : Answer
  pub kind : Kind

abbrev pub kept : State → Answer → Outcome
kept s answer = record { state = s; answer = answer; kind = Keeps }

abbrev pub entered : State → Answer → Outcome
entered s answer = record { state = s; answer = answer; kind = Enters }

abbrev pub kind_entered : Bool → Kind
kind_entered enters = if enters then Enters else Keeps

abbrev pub kind_by : Bool → Command → Kind
kind_by enters command.Stash = Stashes
kind_by enters other = kind_entered enters

unfoldable pub kind_of : State → Call → Option Refusal → Kind
kind_of s call (Some why) = Keeps
kind_of s call None = kind_by (is_some (entry s call)) call.command

-- a command
unfoldable pub commanded : Call → Bool → State → Outcome
commanded call due s = record {
  state = (step s (told due call)).state;
  answer = Replied (step s (told due call)).reply;
  kind = kind_of s call (refusal s (told due call));
}

abbrev pub record_put : Option Op → Option Princ
record_put (Some (op.PutPrinc p)) = Some p
record_put _ = None

-- a rekeying: it answers the record that is stored
unfoldable pub moved : State → Option Princ → Rekeyed → Outcome
moved s (Some p) (Updated after) = entered after (Moved (settled.Updated p))
moved s None (Updated after) = kept s (Moved settled.Gone)
moved s made Already = kept s (Moved settled.Already)
moved s made Gone = kept s (Moved settled.Gone)
moved s made (Refused why) = kept s (NotMoved why)

-- and work that comes back
unfoldable pub settled_as : State → model.Settled → Outcome
settled_as s (Stored after p) = entered after (Moved (settled.Updated p))
settled_as s SettledGone = kept s (Moved settled.Gone)
settled_as s (Changed p version) = kept s (Moved (settled.Changed p version))
settled_as s (NotStored why) = kept s (NotMoved why)

-- What the ask comes to in a state that these rows show, told whether its entry is to start the log anew.
unfoldable pub outcome : RowLists → Ask → Bool → State → Outcome
outcome rows (Commanded call) due s = commanded call due s
outcome rows (RekeyedNow name clock random) due s =
    moved s (record_put (kept_rekeying rows s name clock random)) (rekey s name (at_clock clock due))
outcome rows (Settles name clock work) due s =
    settled_as s (settle s name (at_clock clock due) (record_named (printed name) rows.princs) work)
