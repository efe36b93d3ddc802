-- The laws of steps and rows by which a plan is what a primary performs.
use Rattle.std.specs.Prelude.{ℕ, ◌≡◌, ◌≤◌, Bool, true, false, List, Option, Some, None}
use Rattle.kadm_commands.specs.declared.replies.Reply.TheVariants.{Refused}
use Rattle.kdb_base.specs.Key.{Key}
use Rattle.kdb_base.specs.Moment.{Moment}
use Rattle.kdb_base.specs.Moments.{micros}
use Rattle.kdb_base.specs.declared.outcomes.Refusal.{Refusal}
use Rattle.kdb_model.specs.Calls.{Call, is_last}
use Rattle.kdb_model.specs.Entries.{entry}
use Rattle.kdb_model.specs.Laws.{IsStep, is_master_line, told}
use Rattle.kdb_model.specs.Refusals.{refusal}
use Rattle.kdb_model.specs.Steps.{step}
use Rattle.kdb_plain.specs.Changes.{Spares, effect_on}
use Rattle.kdb_plain.specs.States.{IsValid, IsValidState, history_key}
use Rattle.kdb_plain.specs.declared.changes.PlainOp.{PlainOp}
use Rattle.kdb_plain.specs.declared.states.State.{State}
use Rattle.princ_rows.specs.declared.entries.Op.{Op}
use Rattle.princ_rows.specs.Effects.{effect}
use Rattle.princ_rows.specs.Rows.{RowLists}
use Rattle.row_keys.specs.ShownChanges.{ShowsOp, SparesKeys}
use Rattle.row_keys.specs.Shows.{Shows}

pub record StepLaws : Type 0 where
  pub refused : (s : State) (call : Call) (why : Refusal) → refusal s (told false call) ≡ Some why
      → refusal s (told true call) ≡ Some why
  pub reading : (s : State) (call : Call) → refusal s (told false call) ≡ None → entry s call ≡ None
      → step s (told true call) ≡ step s (told false call)
  pub entry_told : (s : State) (call : Call) (due : Bool) → entry s (told due call) ≡ entry s call
  pub accepted : (s : State) (call : Call) (op : PlainOp) → refusal s (told false call) ≡ None → entry s call ≡ Some op
      → is_last s.point.time ≡ false → refusal s (told true call) ≡ None
  pub valid : (s : State) (call : Call) → IsStep s call → IsValidState (step s call).state
  pub realm : (s : State) (call : Call) → (step s call).state.realm ≡ s.realm
  pub spares : (s : State) (call : Call) (op : PlainOp) → refusal s call ≡ None → entry s call ≡ Some op
      → is_master_line call.command ≡ false → Spares s.realm op
  pub shown : (rows : RowLists) (s : State) (history : Key) (o : Op) (plain : PlainOp) → Shows rows s
      → history_key s.realm s.princs ≡ Some history → ShowsOp s.masters history o plain → SparesKeys s plain
      → Shows (effect (Some o) rows) (effect_on plain s)
  pub ordinary : (s : State) (plain : PlainOp) → Spares s.realm plain → SparesKeys s plain
