-- What a plan of master keys says of a state, as what the primary performs.
use Rattle.std.proofs.Common.{◌≡◌, ◌<◌, ◌+◌, ℕ, Bool, true, false, List, [], ◌∷◌}
use Rattle.std.proofs.Common.{Option, Some, None, refl, sym, ap, subst, ◌∙◌}
use Rattle.std.specs.Option.{option_or}
use Rattle.std.specs.Prelude.{is_some}
use Rattle.acl_text.specs.declared.rules.AclLine.{AclLine}
use Rattle.command_plans.specs.Given.{IsAnswer}
use Rattle.command_plans.specs.KeptEntries.{kept_entry, kept_entry_of}
use Rattle.kadm_commands.specs.declared.commands.Command.{Command}
use Rattle.kadm_commands.specs.declared.commands.Command.TheVariants as command
use Rattle.kadm_commands.specs.declared.replies.Reply.{Reply}
use Rattle.kdb_base.specs.Moment.{Moment}
use Rattle.kdb_base.specs.declared.moments.Point.{Point}
use Rattle.kdb_base.specs.declared.outcomes.Refusal.{Refusal}
use Rattle.kdb_base.specs.declared.versions.Master.{Master}
use Rattle.kdb_histories.specs.Asks.{Ask, Commanded, Enters, Keeps, Outcome, Replied, commanded}
use Rattle.kdb_histories.specs.Asks.{kept, kept_op, kind_by, kind_entered, kind_of, outcome}
use Rattle.kdb_histories.specs.Calls.{IsFit, Performs}
use Rattle.kdb_histories.specs.Moves.{IsLeft}
use Rattle.kdb_histories.specs.Seen.{changed, due_at, entry_point, is_due, is_due_of, outcome_at, seen}
use Rattle.kdb_model.specs.Calls.{Call, call_of, change_point, is_last}
use Rattle.kdb_model.specs.Entries.{entry}
use Rattle.kdb_model.specs.Laws.{IsStep, at_point, told}
use Rattle.kdb_model.specs.Refusals.{refusal}
use Rattle.kdb_model.specs.Steps as steps
use Rattle.kdb_model.specs.Steps.{answered, change_reply, committed, reading, step}
use Rattle.kdb_places.specs.Places.{Place}
use Rattle.kdb_plain.specs.Changes.{effect_on}
use Rattle.kdb_plain.specs.States.{IsValid}
use Rattle.kdb_plain.specs.declared.changes.PlainOp.{PlainOp}
use Rattle.kdb_plain.specs.declared.states.State.{State}
use Rattle.mkey_admin.specs.KeptMasters.{kept_masters}
use Rattle.mkey_admin.specs.Plans.{IsMasterChange, is_master_command, reply_at}
use Rattle.mkey_admin.specs.declared.planned.MasterChange.{MasterChange}
use Rattle.performed_plans.proofs.Performed.{accepted_told, commanded_is, kept_performs, outcome_of}
use Rattle.performed_plans.proofs.Performed.{point_is, put_performs, reads_told, step_commits}
use Rattle.performed_plans.proofs.StepLaws.{StepLaws}
use Rattle.performed_plans.specs.Changes.{IsReady}
use Rattle.princ_rows.specs.declared.entries.Op.{Op}
use Rattle.princ_name.specs.Names.{NameParts}
use Rattle.princ_rows.specs.Effects.{effect}
use Rattle.princ_rows.specs.Rows.{RowLists}
use Rattle.row_keys.proofs.Effects.{shows_at}

-- ---- the commands of master keys

-- none of them writes the stash
no_stash : (enters : Bool) (cmd : Command) → is_master_command cmd ≡ true → kind_by enters cmd ≡ kind_entered enters
no_stash enters (command.AddMaster etype) e = refl
no_stash enters (command.UseMaster c) e = refl
no_stash enters command.ListMasters e = refl
no_stash enters command.PurgeMasters e = refl
no_stash enters (command.AddPrinc c) e = refl
no_stash enters (command.ModPrinc c) e = refl
no_stash enters (command.ChangeKeys c) e = refl
no_stash enters (command.RenPrinc c) e = refl
no_stash enters (command.DelPrinc name) e = refl
no_stash enters (command.GetPrinc name) e = refl
no_stash enters (command.ListPrincs glob) e = refl
no_stash enters (command.PurgeKeys c) e = refl
no_stash enters (command.SetString c) e = refl
no_stash enters (command.DelString c) e = refl
no_stash enters (command.GetStrings name) e = refl
no_stash enters (command.Extract name) e = refl
no_stash enters (command.AddPolicy p) e = refl
no_stash enters (command.ModPolicy c) e = refl
no_stash enters (command.DelPolicy name) e = refl
no_stash enters (command.GetPolicy name) e = refl
no_stash enters command.ListPolicies e = refl
no_stash enters command.GetPrivs e = refl
no_stash enters (command.RekeyPrincs glob) e = refl
no_stash enters command.Stash e = absurd cc
no_stash enters command.Dump e = refl

-- the change of rows that is kept of other commands says nothing of them
no_kept_entry : (rows : RowLists) (s : State) (call : Call) (cmd : Command) → is_master_command cmd ≡ true
    → kept_entry_of rows s call cmd ≡ None
unfolding kept_entry_of
no_kept_entry rows s call (command.AddMaster etype) e = refl
no_kept_entry rows s call (command.UseMaster c) e = refl
no_kept_entry rows s call command.ListMasters e = refl
no_kept_entry rows s call command.PurgeMasters e = refl
no_kept_entry rows s call (command.AddPrinc c) e = absurd cc
no_kept_entry rows s call (command.ModPrinc c) e = absurd cc
no_kept_entry rows s call (command.ChangeKeys c) e = absurd cc
no_kept_entry rows s call (command.RenPrinc c) e = absurd cc
no_kept_entry rows s call (command.DelPrinc name) e = absurd cc
no_kept_entry rows s call (command.GetPrinc name) e = absurd cc
no_kept_entry rows s call (command.ListPrincs glob) e = absurd cc
no_kept_entry rows s call (command.PurgeKeys c) e = absurd cc
no_kept_entry rows s call (command.SetString c) e = absurd cc
no_kept_entry rows s call (command.DelString c) e = absurd cc
no_kept_entry rows s call (command.GetStrings name) e = absurd cc
no_kept_entry rows s call (command.Extract name) e = absurd cc
no_kept_entry rows s call (command.AddPolicy p) e = absurd cc
no_kept_entry rows s call (command.ModPolicy c) e = absurd cc
no_kept_entry rows s call (command.DelPolicy name) e = absurd cc
no_kept_entry rows s call (command.GetPolicy name) e = absurd cc
no_kept_entry rows s call command.ListPolicies e = absurd cc
no_kept_entry rows s call command.GetPrivs e = absurd cc
no_kept_entry rows s call (command.RekeyPrincs glob) e = absurd cc
no_kept_entry rows s call command.Stash e = absurd cc
no_kept_entry rows s call command.Dump e = absurd cc

-- whether the log is to begin anew does not show in an answer but by its point
reply_told : (s : State) (call : Call) (due : Bool) (point : Point) (cmd : Command) → is_master_command cmd ≡ true
    → change_reply s (told due call) point cmd ≡ change_reply s call point cmd
unfolding change_reply
reply_told s call due point (command.AddMaster etype) e = refl
reply_told s call due point (command.UseMaster c) e = refl
reply_told s call due point command.ListMasters e = refl
reply_told s call due point command.PurgeMasters e = refl
reply_told s call due point (command.AddPrinc c) e = absurd cc
reply_told s call due point (command.ModPrinc c) e = absurd cc
reply_told s call due point (command.ChangeKeys c) e = absurd cc
reply_told s call due point (command.RenPrinc c) e = absurd cc
reply_told s call due point (command.DelPrinc name) e = absurd cc
reply_told s call due point (command.GetPrinc name) e = absurd cc
reply_told s call due point (command.ListPrincs glob) e = absurd cc
reply_told s call due point (command.PurgeKeys c) e = absurd cc
reply_told s call due point (command.SetString c) e = absurd cc
reply_told s call due point (command.DelString c) e = absurd cc
reply_told s call due point (command.GetStrings name) e = absurd cc
reply_told s call due point (command.Extract name) e = absurd cc
reply_told s call due point (command.AddPolicy p) e = absurd cc
reply_told s call due point (command.ModPolicy c) e = absurd cc
reply_told s call due point (command.DelPolicy name) e = absurd cc
reply_told s call due point (command.GetPolicy name) e = absurd cc
reply_told s call due point command.ListPolicies e = absurd cc
reply_told s call due point command.GetPrivs e = absurd cc
reply_told s call due point (command.RekeyPrincs glob) e = absurd cc
reply_told s call due point command.Stash e = absurd cc
reply_told s call due point command.Dump e = absurd cc

module _ (laws : StepLaws) (p : Place) (s : State) (client : NameParts) (access : Option (List AclLine)) (cmd : Command)
    (clock : Moment) (random : List ℕ) where
  abbrev call : Call
  call = call_of client access cmd clock random false

  abbrev ask : Ask
  ask = Commanded call

  -- ---- what is read

  keeps : (why : Option Refusal) → is_master_command cmd ≡ true → entry s call ≡ None → kind_of s call why ≡ Keeps
  unfolding kind_of
  keeps (Some why) planned_ is = refl
  keeps None planned_ is = ap (λ (o : Option PlainOp). kind_by (is_some o) cmd) is ∙ no_stash false cmd planned_

  pub master_answers : (reply : Reply) → is_master_command cmd ≡ true → IsAnswer s call reply
      → Performs p s ask (Replied reply) []
  unfolding outcome
  master_answers reply planned_ is =
      let due = due_at ask (seen p s) in
      kept_performs p s ask (Replied reply)
      (commanded_is s call due (answered s (reading s call)) Keeps
      (reads_told laws p s client access cmd clock random due is.accepted is.no_entry)
      (keeps (refusal s (told due call)) planned_ is.no_entry)
      ∙ ap (λ (r : Reply). kept s (Replied r)) (sym is.reply_is))

  -- ---- what is changed

  enters : is_master_command cmd ≡ true → (plain : PlainOp) → entry s call ≡ Some plain → kind_of s call None ≡ Enters
  unfolding kind_of
  enters planned_ plain is = ap (λ (o : Option PlainOp). kind_by (is_some o) cmd) is ∙ no_stash true cmd planned_

  kept_exact : (op : Op) → is_master_command cmd ≡ true → kept_masters p.rows s call ≡ Some op
      → option_or (kept_entry p.rows s call) (kept_masters p.rows s call) ≡ Some op
  kept_exact op planned_ is =
      ap (λ (o : Option Op). option_or o (kept_masters p.rows s call)) (no_kept_entry p.rows s call cmd planned_) ∙ is

  abbrev after_at : Bool → PlainOp → State
  after_at due plain = at_point (change_point s (told due call)) (effect_on plain s)

  outcome_of_change : (c : MasterChange) (due : Bool) → is_due c.op p ≡ due → is_master_command cmd ≡ true
      → IsReady p s cmd clock random c.op
      → (is : IsMasterChange p.rows s call c)
      → commanded call due s ≡ record {
        state = after_at due is.plain;
        answer = Replied (reply_at (entry_point clock c.op p) c.told);
        kind = Enters;
      }
  outcome_of_change c due e planned_ ready is =
      let more : due ≡ true → is_last s.point.time ≡ false = λ (d : due ≡ true). ready.more (e ∙ d) in
      let accepted = accepted_told laws p s client access cmd clock random due is.plain more is.accepted is.entry_is in
      let stepped = step_commits s (told due call) is.plain accepted (laws.entry_told s call due ∙ is.entry_is) in
      let point = point_is laws p s client access cmd clock random c.op due e ready.shows.at in
      let reply : change_reply s (told due call) (change_point s (told due call)) cmd
      ≡ reply_at (entry_point clock c.op p) c.told =
      ap (λ (x : Point). change_reply s (told due call) x cmd) point
      ∙ (reply_told s call due (entry_point clock c.op p) cmd planned_ ∙ sym (is.told_is (entry_point clock c.op p))) in
      commanded_is s call due (committed s (told due call) is.plain) Enters stepped
      (ap (kind_of s call) accepted ∙ enters planned_ is.plain is.entry_is)
      ∙ ap (λ (r : Reply). let made : Outcome =
      record { state = after_at due is.plain; answer = Replied r; kind = Enters } in made) reply

  changed_at : (c : MasterChange) (due : Bool) → is_due c.op p ≡ due → is_master_command cmd ≡ true
      → IsReady p s cmd clock random c.op → (is : IsMasterChange p.rows s call c)
      → (due_is : due_at ask (seen p s) ≡ due)
      → Performs p s ask (Replied (reply_at (entry_point clock c.op p) c.told)) (changed ask c.op p)
  unfolding outcome kept_op
  changed_at c due e planned_ ready is due_is =
      let more : due ≡ true → is_last s.point.time ≡ false = λ (d : due ≡ true). ready.more (e ∙ d) in
      let accepted = accepted_told laws p s client access cmd clock random due is.plain more is.accepted is.entry_is in
      let stepped = step_commits s (told due call) is.plain accepted (laws.entry_told s call due ∙ is.entry_is) in
      let point = point_is laws p s client access cmd clock random c.op due e ready.shows.at in
      let serial : (told due call).due ≡ false → s.point.sno < 4294967295 = λ (d : due ≡ false). ready.serial (e ∙ d) in
      let valid_before : IsValid s.point.time s =
      subst (λ (x : Point). IsValid x.time s) (sym ready.shows.at) ready.shows.valid in
      let stepping : IsStep s (told due call) = record {
        valid = valid_before;
        point = ready.point;
        command = ready.command;
        clock = ready.clock_is;
        random = ready.random_is;
        serial = serial;
      } in
      let after : State = after_at due is.plain in
      let state_is : (step s (told due call)).state ≡ after = ap (λ (o : steps.Outcome). o.state) stepped in
      let valid : IsValid (change_point s (told due call)).time after =
      subst (λ (x : State). IsValid x.point.time x) state_is (laws.valid s (told due call) stepping) in
      let leads : IsLeft p.realm (entry_point clock c.op p) c.op p.rows after = record {
        same = sym (ap (λ (x : State). x.realm) state_is) ∙ (laws.realm s (told due call) ∙ ready.shows.realm);
        at = point;
        shows = shows_at (effect (Some c.op) p.rows) (change_point s (told due call)) (effect_on is.plain s) is.left;
        valid = subst (λ (x : Point). IsValid x.time after) point valid;
      } in
      let fit : IsFit p c.op = record { newer = ready.newer; fits = ready.fits; left = ready.left } in
      put_performs p s ask (Replied (reply_at (entry_point clock c.op p) c.told)) c.op after
      (ap (λ (d : Bool). commanded call d s) due_is ∙ outcome_of_change c due e planned_ ready is)
      (kept_exact c.op planned_ is.exact) leads fit

  due_is_own : (c : MasterChange) → is_master_command cmd ≡ true → IsMasterChange p.rows s call c
      → due_at ask (seen p s) ≡ is_due c.op p
  unfolding kept_op
  due_is_own c planned_ is = ap (λ (o : Option Op). is_due_of o p) (kept_exact c.op planned_ is.exact)

  pub master_changes : (c : MasterChange) → is_master_command cmd ≡ true → IsReady p s cmd clock random c.op
      → IsMasterChange p.rows s call c
      → Performs p s ask (Replied (reply_at (entry_point clock c.op p) c.told)) (changed ask c.op p)
  master_changes c planned_ ready is = changed_at c (is_due c.op p) refl planned_ ready is (due_is_own c planned_ is)

  -- the master keys behind it are those that are told
  pub masters_behind : (c : MasterChange) → is_master_command cmd ≡ true → IsReady p s cmd clock random c.op
      → IsMasterChange p.rows s call c
      → (outcome_at ask (seen p s)).state.masters ≡ c.masters
  unfolding outcome
  masters_behind c planned_ ready is =
      ap (λ (o : Outcome). o.state.masters) (ap (λ (d : Bool). commanded call d s) (due_is_own c planned_ is)
      ∙ outcome_of_change c (is_due c.op p) refl planned_ ready is)
      ∙ sym is.masters_are
