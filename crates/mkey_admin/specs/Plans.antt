-- What a command of master keys comes to, in a state and whatever the rows show.
use Rattle.std.specs.Prelude.{ℕ, ◌≡◌, ◌≤◌, Bool, true, false, ◌||◌, nat_le, List, [], ◌∷◌}
use Rattle.std.specs.Prelude.{length, Option, Some, None, is_none, Result, Ok, Err, option_map}
use Rattle.command_plans.specs.Causes.{denial_of}
use Rattle.command_plans.specs.Given.{IsAnswer, IsApplied, IsGiven}
use Rattle.command_plans.specs.Targets.{IsTooLong}
use Rattle.command_plans.specs.declared.given.Given.{Given}
use Rattle.kadm_commands.specs.declared.commands.Command.{Command}
use Rattle.kadm_commands.specs.declared.commands.Command.TheVariants as command
use Rattle.kadm_commands.specs.declared.replies.Reply.{Reply}
use Rattle.kadm_commands.specs.declared.replies.Reply.TheVariants as reply
use Rattle.kdb_base.specs.Key.{Key}
use Rattle.kadm_commands.specs.declared.versions.PurgeRow.{PurgeRow}
use Rattle.kdb_base.specs.Limits.{longest_row, most_masters}
use Rattle.kdb_base.specs.declared.moments.Point.{Point}
use Rattle.kdb_base.specs.declared.outcomes.Refusal.{Refusal}
use Rattle.kdb_base.specs.declared.outcomes.Refusal.TheVariants.{TooManyMasters, UnknownMaster}
use Rattle.kdb_base.specs.declared.versions.Activation.{Activation}
use Rattle.kdb_base.specs.declared.versions.Master.{Master}
use Rattle.kdb_model.specs.Access.{asking, master_parts, setting}
use Rattle.kdb_model.specs.Calls.{Call}
use Rattle.kdb_model.specs.Entries.{entry}
use Rattle.kdb_model.specs.Refusals.{greatest_kvno, refusal, when}
use Rattle.kdb_model.specs.Steps.{change_reply}
use Rattle.kdb_plain.specs.Changes.{effect_on}
use Rattle.kdb_plain.specs.States.{history_key, master_of}
use Rattle.kdb_plain.specs.declared.changes.PlainOp.{PlainOp}
use Rattle.kdb_plain.specs.declared.states.State.{State}
use Rattle.master_keys.specs.First.{master_name}
use Rattle.master_keys.specs.Versions.{last_version}
use Rattle.mkey_admin.specs.KeptMasters.{kept_masters}
use Rattle.mkey_admin.specs.Told.{Grounds, dead_told, versions_told}
use Rattle.mkey_admin.specs.declared.planned.MasterChange.{MasterChange}
use Rattle.mkey_admin.specs.declared.planned.MasterPlan.{MasterPlan}
use Rattle.mkey_admin.specs.declared.planned.MasterPlan.TheVariants.{Answer, Change}
use Rattle.mkey_admin.specs.declared.planned.Told.{Told}
use Rattle.mkey_admin.specs.declared.planned.Told.TheVariants.{Added, Used, Purged}
use Rattle.princ_rows.specs.declared.entries.Op.TheVariants as op
use Rattle.princ_record.specs.Princs.{princ}
use Rattle.princ_record.specs.declared.facts.ChainPart.{ChainPart}
use Rattle.princ_record.specs.declared.princs.Princ.{Princ}
use Rattle.princ_rows.specs.Effects.{effect}
use Rattle.princ_rows.specs.Rows.{AreRows, RowLists}
use Rattle.row_keys.specs.Lookups.{record_named}
use Rattle.row_keys.specs.ShownChanges.{ShowsOp}
use Rattle.row_keys.specs.Shows.{Shows}

-- the commands that are planned here
abbrev pub is_master_command : Command → Bool
is_master_command (command.AddMaster etype) = true
is_master_command (command.UseMaster c) = true
is_master_command command.ListMasters = true
is_master_command command.PurgeMasters = true
is_master_command other = false

-- what is answered to a change at its point
abbrev pub reply_at : Point → Told → Reply
reply_at point (Added version) = reply.MasterAdded point version
reply_at point (Used version secs) = reply.MasterUsed point version secs
reply_at point (Purged rows) = reply.MastersPurged (Some point) rows

-- ---- in a state

-- The call makes a change of K/M's record, and this is it, exactly. Rows that show the state show the one behind the
-- step once it is made, with the master keys that are told, and the answer at the change's point is the step's.
pub record IsMasterChange (rows : RowLists) (s : State) (call : Call) (c : MasterChange) : Type 0 where
  pub accepted : refusal s call ≡ None
  pub plain : PlainOp
  pub entry_is : entry s call ≡ Some plain
  pub shown : (history : Key) → history_key s.realm s.princs ≡ Some history → ShowsOp s.masters history c.op plain
  pub left : Shows (effect (Some c.op) rows) (effect_on plain s)
  pub masters_are : c.masters ≡ (effect_on plain s).masters
  pub exact : kept_masters rows s call ≡ Some c.op
  pub told_is : (point : Point) → reply_at point c.told ≡ change_reply s call point call.command

abbrev pub IsMasterPlanned : RowLists → State → Call → MasterPlan → Type 0
IsMasterPlanned rows s call (Answer reply) = IsAnswer s call reply
IsMasterPlanned rows s call (Change c) = IsMasterChange rows s call c

abbrev pub IsMasterPlan : RowLists → State → Call → Result MasterPlan Refusal → Type 0
IsMasterPlan rows s call (Ok planned) = IsMasterPlanned rows s call planned
IsMasterPlan rows s call (Err why) = refusal s call ≡ Some why

-- ---- whatever the rows show

abbrev pub MayApply : RowLists → Result MasterPlan Refusal → Type 0
MayApply rows (Ok (Change c)) = IsApplied rows c.op
MayApply rows _ = Unit {0}

-- ---- over all that is given

-- the command comes to this
pub record IsMasterJudged (g : Given) (command : Command) (plan : Result MasterPlan Refusal) : Type 0 where
  pub plan_is : (s : State) (call : Call) → IsGiven g command s call → IsMasterPlan g.rows.now s call plan
  pub applies : MayApply g.rows.now plan

-- the refusal of whatever is done to K/M, where the access list does not allow it
abbrev pub master_denied : Given → Option Refusal
master_denied g =
    denial_of (option_map (λ acl. acl.now) g.acl) g.client.now (asking setting (master_parts g.realm.now) ∷ [])

-- no version more may be listed, or none is left
abbrev pub masters_full : Given → Option Refusal
masters_full g = when (nat_le most_masters (length g.masters.now) || nat_le greatest_kvno (last_version g.masters.now))
    (TooManyMasters most_masters)

-- no master key has the version
abbrev pub version_unknown : Given → ℕ → Option Refusal
version_unknown g version = when (is_none (master_of g.masters.now version)) (UnknownMaster version)

-- K/M's record
pub record IsEntry (g : Given) (p : Princ) : Type 0 where
  pub there : record_named (master_name g.realm.now) g.rows.now.princs ≡ Some p
  pub rows : AreRows g.rows.now

-- by what versions are judged
abbrev pub grounds_of : Given → List Activation → Grounds
grounds_of g activations = record {
  realm = g.realm.now;
  princs = g.rows.now.princs;
  masters = g.masters.now;
  activations = activations;
  secs = g.moment.secs;
}

-- what is told of the versions by K/M's record, and those of them that do not serve
pub record IsPurge (g : Given) (p : Princ) (rows : List PurgeRow) (dead : List ℕ) : Type 0 where
  pub part : ChainPart
  pub part_is : p.chain ≡ Some part
  pub rows_are : rows ≡ versions_told (grounds_of g part.activations)
  pub dead_are : dead ≡ dead_told rows

-- the change that puts this record and leaves these master keys, if the record is short enough
abbrev pub IsMasterPut : Princ → List Master → Told → Result MasterPlan Refusal → Type 0
IsMasterPut p masters told (Ok planned) =
    (planned ≡ Change (record { op = op.PutPrinc p; masters = masters; told = told }))
    × (length (princ p) ≤ longest_row)
IsMasterPut p masters told (Err why) = IsTooLong p why
