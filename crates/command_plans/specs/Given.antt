-- What a plan is given, which calls on which states that stands for, and what a plan comes to there.
use Rattle.std.specs.Prelude.{ℕ, ◌≡◌, true, false, List, Option, Some, None, Result, Ok, Err, option_map}
use Rattle.acl_text.specs.declared.rules.AclLine.{AclLine}
use Rattle.kadm_commands.specs.declared.commands.Command.{Command}
use Rattle.kadm_commands.specs.declared.replies.Reply.{Reply}
use Rattle.command_plans.specs.KeptEntries.{kept_entry}
use Rattle.command_plans.specs.declared.given.Given.{Given}
use Rattle.command_plans.specs.declared.planned.Planned.{Planned}
use Rattle.command_plans.specs.declared.planned.Planned.TheVariants.{Answer, Change}
use Rattle.kdb_base.specs.Key.{Key}
use Rattle.kdb_base.specs.Moment.{Moment}
use Rattle.kdb_base.specs.declared.outcomes.Refusal.{Refusal}
use Rattle.kdb_base.specs.declared.versions.Master.{Master}
use Rattle.kdb_model.specs.Calls.{Call, call_of, moment_of}
use Rattle.kdb_model.specs.Entries.{entry}
use Rattle.kdb_model.specs.Refusals.{refusal}
use Rattle.kdb_model.specs.Steps.{reading}
use Rattle.kdb_places.specs.Applying.{may_apply}
use Rattle.kdb_plain.specs.States.{IsValid, history_key}
use Rattle.kdb_plain.specs.declared.changes.PlainOp.{PlainOp}
use Rattle.kdb_plain.specs.declared.states.State.{State}
use Rattle.princ_rows.specs.Entries.{IsOp}
use Rattle.princ_rows.specs.declared.entries.Op.{Op}
use Rattle.princ_name.specs.Names.{NameParts}
use Rattle.princ_rows.specs.Rows.{RowLists}
use Rattle.row_keys.specs.ShownChanges.{ShowsOp}
use Rattle.row_keys.specs.Shows.{Shows}

-- the rows, the master keys and the realm of this state, which is valid at the moment
pub record IsSeenBy (rows : RowLists) (masters : List Master) (realm : List ℕ) (moment : Moment)
    (s : State) : Type 0 where
  pub shows : Shows rows s
  pub valid : IsValid moment s
  pub masters_are : s.masters ≡ masters
  pub realm_is : s.realm ≡ realm

-- The call of this command, at a clock's time that comes to this moment. A plan is told that the log does not start
-- anew: whether it does, and the refusal for want of a later time, is of whoever holds the log.
pub record IsCallOf (s : State) (client : NameParts) (access : Option (List AclLine)) (command : Command)
    (moment : Moment) (random : List ℕ) (call : Call) : Type 0 where
  pub clock : Moment
  pub call_is : call ≡ call_of client access command clock random false
  pub moment_is : moment_of s (call_of client access command clock random false) ≡ moment

-- ---- what a plan comes to, in a state

-- the call only reads, and this is its answer
pub record IsAnswer (s : State) (call : Call) (reply : Reply) : Type 0 where
  pub accepted : refusal s call ≡ None
  pub no_entry : entry s call ≡ None
  pub reply_is : reply ≡ reading s call

-- The call makes a change. In rows that show the state this one of them shows it, and it is the one that is kept: its
-- new blobs are wrapped with the confounders of their places in the block, and what the call does not touch stays to
-- the byte.
pub record IsChange (rows : RowLists) (s : State) (call : Call) (op : Op) : Type 0 where
  pub accepted : refusal s call ≡ None
  pub plain : PlainOp
  pub entry_is : entry s call ≡ Some plain
  pub shown : (history : Key) → history_key s.realm s.princs ≡ Some history → ShowsOp s.masters history op plain
  pub exact : kept_entry rows s call ≡ Some op

abbrev pub IsPlanned : RowLists → State → Call → Planned → Type 0
IsPlanned rows s call (Answer reply) = IsAnswer s call reply
IsPlanned rows s call (Change op) = IsChange rows s call op

abbrev pub IsPlan : RowLists → State → Call → Result Planned Refusal → Type 0
IsPlan rows s call (Ok planned) = IsPlanned rows s call planned
IsPlan rows s call (Err why) = refusal s call ≡ Some why

-- ---- what a plan comes to, whatever the rows show

-- a change has a spelling and may be made
pub record IsApplied (rows : RowLists) (op : Op) : Type 0 where
  pub spelled : IsOp (Some op)
  pub applies : may_apply op rows ≡ true

abbrev pub MayApply : RowLists → Result Planned Refusal → Type 0
MayApply rows (Ok (Change op)) = IsApplied rows op
MayApply rows _ = Unit {0}

-- ---- over all that is given

-- the state and the call that this command stands for
pub record IsGiven (g : Given) (command : Command) (s : State) (call : Call) : Type 0 where
  pub seen : IsSeenBy g.rows.now g.masters.now g.realm.now g.moment s
  pub called : IsCallOf s g.client.now (option_map (λ acl. acl.now) g.acl) command g.moment g.random.now call

-- the command comes to this
pub record IsJudged (g : Given) (command : Command) (plan : Result Planned Refusal) : Type 0 where
  pub plan_is : (s : State) (call : Call) → IsGiven g command s call → IsPlan g.rows.now s call plan
  pub applies : MayApply g.rows.now plan
