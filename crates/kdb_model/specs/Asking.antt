-- What the interpreter is asked, as the call that it is.
use Rattle.std.specs.Prelude.{ℕ, ◌≡◌, Bool, true, false, List, Option, Some, None, option_map}
use Rattle.kadm_commands.specs.declared.commands.Command.{Command}
use Rattle.kadm_commands.specs.declared.commands.Command.TheVariants as command
use Rattle.kdb_model.specs.Calls.{Call, call_of}
use Rattle.kdb_base.specs.declared.outcomes.Refusal.{Refusal}
use Rattle.kdb_model.specs.Entries.{entry}
use Rattle.kdb_model.specs.Records.{modified, purged, rekeyed, renamed, restrung}
use Rattle.kdb_model.specs.Refusals.{has_last_kvno, refusal, target, too_many_masters}
use Rattle.kdb_model.specs.declared.asked.Asked.{Asked}
use Rattle.kdb_plain.specs.Changes.{HasRoom, effect_on}
use Rattle.kdb_plain.specs.Strings.{with_string, without_string}
use Rattle.kdb_plain.specs.declared.changes.PlainOp.{PlainOp}
use Rattle.kdb_plain.specs.declared.changes.PlainOp.TheVariants.{PutPrinc, DropPrinc, Rename}
use Rattle.kdb_plain.specs.declared.princs.PlainPrinc.{PlainPrinc}
use Rattle.kdb_plain.specs.declared.states.State.{State}
use Rattle.princ_name.specs.Names.{NameParts, printed}

abbrev pub state_in : Asked → State
state_in a = a.state.now

-- the log does not start anew
abbrev pub call_in : Asked → Call
call_in a = call_of a.client.now (option_map (λ acl. acl.now) a.acl) a.command.now a.moment a.random.now false

-- ---- what a command changes of a principal that is there

unfoldable pub princ_change : State → Call → Command → PlainPrinc → Option PlainOp
princ_change s call (command.ModPrinc c) q = Some (PutPrinc (modified s call c q))
princ_change s call (command.ChangeKeys c) q = Some (PutPrinc (rekeyed s call c q))
princ_change s call (command.RenPrinc c) q = Some (Rename (printed c.name) (renamed s call c q))
princ_change s call (command.DelPrinc name) q = Some (DropPrinc (printed name))
princ_change s call (command.PurgeKeys c) q = Some (PutPrinc (purged s call c q))
princ_change s call (command.SetString c) q = Some (PutPrinc (restrung s call (with_string c.key c.value q.strings) q))
princ_change s call (command.DelString c) q = Some (PutPrinc (restrung s call (without_string c.key q.strings) q))
princ_change s call _ q = None

-- the versions of new keys and of a new master key are versions
pub record HasVersions (s : State) (command : Command) : Type 0 where
  pub keys : has_last_kvno command (target s command) ≡ false
  pub masters : too_many_masters s command ≡ None

-- ---- names

-- the command changes or takes out what it names
abbrev pub touches : Command → Bool
touches (command.GetPrinc name) = false
touches (command.GetStrings name) = false
touches _ = true

abbrev pub any_name : (NameParts → Bool) → Option NameParts → Bool
any_name test None = false
any_name test (Some name) = test name

-- ---- what is read of a principal

abbrev pub reads_princ : Command → Bool
reads_princ (command.GetPrinc name) = true
reads_princ (command.GetStrings name) = true
reads_princ (command.Extract name) = true
reads_princ _ = false

-- the command changes something else than a principal that has to be there
abbrev pub changes_state : Command → Bool
changes_state (command.AddPrinc c) = true
changes_state (command.AddPolicy p) = true
changes_state (command.ModPolicy c) = true
changes_state (command.DelPolicy name) = true
changes_state (command.AddMaster etype) = true
changes_state (command.UseMaster c) = true
changes_state command.PurgeMasters = true
changes_state _ = false

-- ---- decisions

-- the refusal is that of the command; where there is none, the change is its own, there is room for it, and a version
-- is left for it
pub record IsDecided (s : State) (call : Call) (change : Option PlainOp) (why : Option Refusal) : Type 0 where
  pub why_is : refusal s call ≡ why
  pub change_is : why ≡ None → change ≡ entry s call
  pub room : why ≡ None → (op : PlainOp) → change ≡ Some op → HasRoom (effect_on op s)
  pub masters : why ≡ None → too_many_masters s call.command ≡ None
