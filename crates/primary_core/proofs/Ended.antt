-- What a command that rows alone decide leaves of a state, and what is answered where time ends.
use Rattle.std.proofs.Common.{◌≡◌, ℕ, Bool, true, false, List, [], Option, Some, None, refl, ap, ◌∙◌}
use Rattle.acl_text.specs.declared.rules.AclLine.{AclLine}
use Rattle.command_plans.specs.Given.{IsChange}
use Rattle.command_plans.specs.KeptEntries.{kept_entry, kept_entry_of}
use Rattle.mkey_admin.specs.KeptMasters.{kept_masters}
use Rattle.mkey_admin.specs.Plans.{IsMasterChange, is_master_command}
use Rattle.mkey_admin.specs.declared.planned.MasterChange.{MasterChange}
use Rattle.kadm_commands.specs.declared.commands.Command.{Command}
use Rattle.kadm_commands.specs.declared.commands.Command.TheVariants as command
use Rattle.kadm_commands.specs.declared.replies.Reply.TheVariants.{Refused}
use Rattle.performed_plans.specs.Ready.{is_planned}
use Rattle.std.specs.Option.{option_or}
use Rattle.kdb_base.specs.Moment.{Moment}
use Rattle.kdb_base.specs.declared.outcomes.Refusal.{Refusal}
use Rattle.kdb_base.specs.declared.outcomes.Refusal.TheVariants.{TimeEnd}
use Rattle.kdb_histories.specs.Asks.{Commanded, Outcome, Replied, commanded, kept, kept_op, kind_of, outcome}
use Rattle.kdb_histories.specs.Calls.{Performs}
use Rattle.kdb_histories.specs.Seen.{due_at, is_due, is_due_of, seen}
use Rattle.kdb_model.specs.Calls.{Call, call_of, is_last}
use Rattle.kdb_model.specs.Entries.{entry}
use Rattle.kdb_model.specs.Laws.{at_point, is_master_line, told}
use Rattle.kdb_model.specs.Refusals.{refusal}
use Rattle.kdb_model.specs.Steps as steps
use Rattle.kdb_model.specs.Steps.{step}
use Rattle.kdb_places.specs.Places.{Place}
use Rattle.kdb_plain.specs.Changes.{Spares, effect_on}
use Rattle.kdb_plain.specs.declared.changes.PlainOp.{PlainOp}
use Rattle.kdb_plain.specs.declared.states.State.{State}
use Rattle.primary_core.proofs.Performed.{ask_keeps}
use Rattle.princ_rows.specs.declared.entries.Op.{Op}
use Rattle.princ_name.specs.Names.{NameParts}
use Rattle.princ_rows.specs.Rows.{RowLists}

-- ---- the master keys stay

-- a command that rows alone decide is none of the master keys
spares_masters : (cmd : Command) → is_planned cmd ≡ true → is_master_line cmd ≡ false
spares_masters (command.AddPrinc c) e = refl
spares_masters (command.ModPrinc c) e = refl
spares_masters (command.ChangeKeys c) e = refl
spares_masters (command.RenPrinc c) e = refl
spares_masters (command.DelPrinc name) e = refl
spares_masters (command.GetPrinc name) e = refl
spares_masters (command.ListPrincs glob) e = refl
spares_masters (command.PurgeKeys c) e = refl
spares_masters (command.SetString c) e = refl
spares_masters (command.DelString c) e = refl
spares_masters (command.GetStrings name) e = refl
spares_masters (command.Extract name) e = refl
spares_masters (command.AddPolicy p) e = refl
spares_masters (command.ModPolicy c) e = refl
spares_masters (command.DelPolicy name) e = refl
spares_masters (command.GetPolicy name) e = refl
spares_masters command.ListPolicies e = refl
spares_masters command.GetPrivs e = refl
spares_masters (command.AddMaster etype) e = absurd cc
spares_masters (command.UseMaster c) e = absurd cc
spares_masters command.ListMasters e = refl
spares_masters command.PurgeMasters e = absurd cc
spares_masters (command.RekeyPrincs glob) e = refl
spares_masters command.Stash e = refl
spares_masters command.Dump e = refl

pub record MasterLaws : Type 0 where
  pub refused : (s : State) (call : Call) (why : Refusal) → refusal s call ≡ Some why
      → step s call ≡ record { state = s; reply = Refused why }
  pub reading : (s : State) (call : Call) → entry s call ≡ None → (step s call).state ≡ s
  pub state : (s : State) (call : Call) (op : PlainOp) → refusal s call ≡ None → entry s call ≡ Some op
      → (step s call).state ≡ at_point (step s call).state.point (effect_on op s)
  pub spares : (s : State) (call : Call) (op : PlainOp) → refusal s call ≡ None → entry s call ≡ Some op
      → is_master_line call.command ≡ false
      → Spares s.realm op
  pub masters : (s : State) (op : PlainOp) → Spares s.realm op → (effect_on op s).masters ≡ s.masters

pub masters_stay : (laws : MasterLaws) (s : State) (call : Call) → is_planned call.command ≡ true
    → (step s call).state.masters ≡ s.masters
masters_stay laws s call planned_ = judged (refusal s call) refl
  where
    entered : (made : Option PlainOp) → refusal s call ≡ None → entry s call ≡ made
        → (step s call).state.masters ≡ s.masters
    entered None accepted is = ap (λ (x : State). x.masters) (laws.reading s call is)
    entered (Some op) accepted is =
        ap (λ (x : State). x.masters) (laws.state s call op accepted is)
        ∙ laws.masters s op (laws.spares s call op accepted is (spares_masters call.command planned_))

    judged : (why : Option Refusal) → refusal s call ≡ why → (step s call).state.masters ≡ s.masters
    judged (Some why) e = ap (λ (x : steps.Outcome). x.state.masters) (laws.refused s call why e)
    judged None e = entered (entry s call) e refl

-- ---- no later time

refused_is : (s : State) (call : Call) (due : Bool) (why : Refusal) → refusal s (told due call) ≡ Some why
    → step s (told due call) ≡ record { state = s; reply = Refused why }
    → commanded call due s ≡ kept s (Replied (Refused why))
unfolding commanded kind_of
refused_is s call due why refused stepped =
    ap (λ (o : steps.Outcome). let made : Outcome = record {
      state = o.state;
      answer = Replied o.reply;
      kind = kind_of s call (refusal s (told due call));
    } in made) stepped
    ∙ ap (λ (r : Option Refusal). let made : Outcome =
    record { state = s; answer = Replied (Refused why); kind = kind_of s call r } in made) refused

pub record LateLaws : Type 0 where
  pub ended : (s : State) (call : Call) (op : PlainOp) → refusal s (told false call) ≡ None → entry s call ≡ Some op
      → is_last s.point.time ≡ true
      → refusal s (told true call) ≡ Some TimeEnd
  pub refused : (s : State) (call : Call) (why : Refusal) → refusal s call ≡ Some why
      → step s call ≡ record { state = s; reply = Refused why }

-- where its change is this one, the log is to begin anew for it, and no later time is left
late_at : (laws : LateLaws) (p : Place) (s : State) (client : NameParts) (access : Option (List AclLine))
    (cmd : Command) (clock : Moment) (random : List ℕ) (op : Op)
    (plain : PlainOp) → is_due op p ≡ true → is_last s.point.time ≡ true
    → refusal s (call_of client access cmd clock random false) ≡ None
    → entry s (call_of client access cmd clock random false) ≡ Some plain
    → kept_op p.rows s (Commanded (call_of client access cmd clock random false)) ≡ Some op
    → Performs p s (Commanded (call_of client access cmd clock random false)) (Replied (Refused TimeEnd)) []
unfolding outcome
late_at laws p s client access cmd clock random op plain due last accepted entered exact =
    let call = call_of client access cmd clock random false in
    let ask = Commanded call in
    let why : refusal s (told true call) ≡ Some TimeEnd = laws.ended s call plain accepted entered last in
    let at : due_at ask (seen p s) ≡ true = ap (λ (o : Option Op). is_due_of o p) exact ∙ due in
    ask_keeps p s ask (Replied (Refused TimeEnd))
    (ap (λ (d : Bool). commanded call d s) at
    ∙ refused_is s call true TimeEnd why (laws.refused s (told true call) TimeEnd why))

rows_exact : (rows : RowLists) (s : State) (call : Call) (op : Op) → kept_entry rows s call ≡ Some op
    → kept_op rows s (Commanded call) ≡ Some op
unfolding kept_op
rows_exact rows s call op is = ap (λ (o : Option Op). option_or o (kept_masters rows s call)) is

pub late : (laws : LateLaws) (p : Place) (s : State) (client : NameParts) (access : Option (List AclLine))
    (cmd : Command) (clock : Moment) (random : List ℕ) (op : Op)
    → is_due op p ≡ true → is_last s.point.time ≡ true
    → IsChange p.rows s (call_of client access cmd clock random false) op
    → Performs p s (Commanded (call_of client access cmd clock random false)) (Replied (Refused TimeEnd)) []
late laws p s client access cmd clock random op due last is =
    late_at laws p s client access cmd clock random op is.plain due last is.accepted is.entry_is
    (rows_exact p.rows s (call_of client access cmd clock random false) op is.exact)

-- of the commands of master keys, the change of rows that is kept of others says nothing
no_kept_entry : (rows : RowLists) (s : State) (call : Call) (cmd : Command) → is_master_command cmd ≡ true
    → kept_entry_of rows s call cmd ≡ None
unfolding kept_entry_of
no_kept_entry rows s call (command.AddMaster etype) e = refl
no_kept_entry rows s call (command.UseMaster c) e = refl
no_kept_entry rows s call command.ListMasters e = refl
no_kept_entry rows s call command.PurgeMasters e = refl
no_kept_entry rows s call (command.AddPrinc c) e = absurd cc
no_kept_entry rows s call (command.ModPrinc c) e = absurd cc
no_kept_entry rows s call (command.ChangeKeys c) e = absurd cc
no_kept_entry rows s call (command.RenPrinc c) e = absurd cc
no_kept_entry rows s call (command.DelPrinc name) e = absurd cc
no_kept_entry rows s call (command.GetPrinc name) e = absurd cc
no_kept_entry rows s call (command.ListPrincs glob) e = absurd cc
no_kept_entry rows s call (command.PurgeKeys c) e = absurd cc
no_kept_entry rows s call (command.SetString c) e = absurd cc
no_kept_entry rows s call (command.DelString c) e = absurd cc
no_kept_entry rows s call (command.GetStrings name) e = absurd cc
no_kept_entry rows s call (command.Extract name) e = absurd cc
no_kept_entry rows s call (command.AddPolicy p) e = absurd cc
no_kept_entry rows s call (command.ModPolicy c) e = absurd cc
no_kept_entry rows s call (command.DelPolicy name) e = absurd cc
no_kept_entry rows s call (command.GetPolicy name) e = absurd cc
no_kept_entry rows s call command.ListPolicies e = absurd cc
no_kept_entry rows s call command.GetPrivs e = absurd cc
no_kept_entry rows s call (command.RekeyPrincs glob) e = absurd cc
no_kept_entry rows s call command.Stash e = absurd cc
no_kept_entry rows s call command.Dump e = absurd cc

masters_exact : (rows : RowLists) (s : State) (call : Call) (op : Op) → is_master_command call.command ≡ true
    → kept_masters rows s call ≡ Some op
    → kept_op rows s (Commanded call) ≡ Some op
unfolding kept_op
masters_exact rows s call op mastered is =
    ap (λ (o : Option Op). option_or o (kept_masters rows s call)) (no_kept_entry rows s call call.command mastered)
    ∙ is

pub masters_late : (laws : LateLaws) (p : Place) (s : State) (client : NameParts) (access : Option (List AclLine))
    (cmd : Command) (clock : Moment) (random : List ℕ)
    (c : MasterChange) → is_master_command cmd ≡ true → is_due c.op p ≡ true → is_last s.point.time ≡ true
    → IsMasterChange p.rows s (call_of client access cmd clock random false) c
    → Performs p s (Commanded (call_of client access cmd clock random false)) (Replied (Refused TimeEnd)) []
masters_late laws p s client access cmd clock random c mastered due last is =
    late_at laws p s client access cmd clock random c.op is.plain due last is.accepted is.entry_is
    (masters_exact p.rows s (call_of client access cmd clock random false) c.op mastered is.exact)
