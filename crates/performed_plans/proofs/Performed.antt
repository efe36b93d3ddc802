-- What a plan says of a state, as what the primary performs.
use Rattle.std.proofs.Common.{◌≡◌, ◌<◌, ◌+◌, ℕ, Bool, true, false, List, [], ◌∷◌}
use Rattle.std.proofs.Common.{Option, Some, None, refl, sym, ap, subst, ◌∙◌}
use Rattle.std.specs.Prelude.{is_some, length, if◌then◌else◌}
use Rattle.std.specs.Option.{option_or}
use Rattle.acl_text.specs.declared.rules.AclLine.{AclLine}
use Rattle.command_plans.specs.Given.{IsAnswer, IsChange}
use Rattle.command_plans.specs.KeptEntries.{kept_entry}
use Rattle.kadm_commands.specs.Commands.{IsCommand}
use Rattle.kadm_commands.specs.declared.commands.Command.{Command}
use Rattle.kadm_commands.specs.declared.commands.Command.TheVariants as command
use Rattle.kadm_commands.specs.declared.replies.Reply.{Reply}
use Rattle.kadm_commands.specs.declared.replies.Reply.TheVariants.{Done, Refused}
use Rattle.kadm_plan.proofs.Lines.{no_master_line}
use Rattle.kadm_plan.specs.Ready.{is_planned}
use Rattle.kdb_base.specs.Moment.{Moment}
use Rattle.kdb_base.specs.Moments.{later_moment}
use Rattle.kdb_base.specs.declared.moments.Point.{Point}
use Rattle.kdb_base.specs.declared.outcomes.Refusal.{Refusal}
use Rattle.kdb_histories.specs.Asks.{Answer, Ask, Commanded, Enters, Keeps, Kind, Outcome, Replied, clock_of}
use Rattle.kdb_histories.specs.Asks.{commanded, kept, kept_op, kind_by, kind_entered, kind_of, outcome}
use Rattle.kdb_histories.specs.Calls.{HasTimeLeft, IsFit, Leads, MayBeFit, Performs}
use Rattle.kdb_histories.specs.Moves.{IsLeft}
use Rattle.kdb_histories.specs.Seen.{Keep, Plan, Put, Write, changed, due_at, entry_point, is_due, is_due_of}
use Rattle.kdb_histories.specs.Seen.{made_by, moment_at, plan_at, planned, reset_point, seen, stash_of}
use Rattle.kdb_histories.specs.Stages.{ShowsAt}
use Rattle.kdb_model.specs.Calls.{Call, call_of, change_point, is_last, next_moment, point_after}
use Rattle.kdb_model.specs.Entries.{entry}
use Rattle.kdb_model.specs.Laws.{IsMoment, IsPoint, IsStep, at_point, told}
use Rattle.kdb_model.specs.Refusals.{refusal}
use Rattle.kdb_model.specs.Steps as steps
use Rattle.kdb_model.specs.Steps.{answered, change_reply, committed, performed, reading, step, unless_refused}
use Rattle.kdb_places.specs.Applying.{may_apply}
use Rattle.kdb_places.specs.Places.{Place, next_point, point_of}
use Rattle.kdb_plain.specs.Changes.{effect_on}
use Rattle.kdb_plain.specs.States.{IsValid}
use Rattle.kdb_plain.specs.declared.changes.PlainOp.{PlainOp}
use Rattle.kdb_plain.specs.declared.states.State.{State}
use Rattle.mkey_admin.specs.KeptMasters.{kept_masters}
use Rattle.performed_plans.proofs.StepLaws.{StepLaws}
use Rattle.performed_plans.specs.Changes.{IsReady}
use Rattle.princ_rows.specs.declared.entries.Op.{Op}
use Rattle.princ_name.specs.Names.{NameParts}
use Rattle.princ_rows.specs.Effects.{effect}
use Rattle.princ_rows.specs.Rows.{RowLists}
use Rattle.row_keys.proofs.Effects.{shows_at}
use Rattle.row_keys.specs.Shows.{Shows}

-- ---- commands that rows alone decide

-- none of them writes the stash
no_stash : (enters : Bool) (cmd : Command) → is_planned cmd ≡ true → kind_by enters cmd ≡ kind_entered enters
no_stash enters (command.AddPrinc c) e = refl
no_stash enters (command.ModPrinc c) e = refl
no_stash enters (command.ChangeKeys c) e = refl
no_stash enters (command.RenPrinc c) e = refl
no_stash enters (command.DelPrinc name) e = refl
no_stash enters (command.GetPrinc name) e = refl
no_stash enters (command.ListPrincs glob) e = refl
no_stash enters (command.PurgeKeys c) e = refl
no_stash enters (command.SetString c) e = refl
no_stash enters (command.DelString c) e = refl
no_stash enters (command.GetStrings name) e = refl
no_stash enters (command.Extract name) e = refl
no_stash enters (command.AddPolicy p) e = refl
no_stash enters (command.ModPolicy c) e = refl
no_stash enters (command.DelPolicy name) e = refl
no_stash enters (command.GetPolicy name) e = refl
no_stash enters command.ListPolicies e = refl
no_stash enters command.GetPrivs e = refl
no_stash enters (command.AddMaster etype) e = absurd cc
no_stash enters (command.UseMaster c) e = absurd cc
no_stash enters command.ListMasters e = absurd cc
no_stash enters command.PurgeMasters e = absurd cc
no_stash enters (command.RekeyPrincs glob) e = absurd cc
no_stash enters command.Stash e = absurd cc
no_stash enters command.Dump e = absurd cc

-- their changes are answered by the point, and are none of the master keys
done_reply : (s : State) (call : Call) (point : Point) (cmd : Command) → is_planned cmd ≡ true
    → change_reply s call point cmd ≡ Done point
unfolding change_reply
done_reply s call point (command.AddPrinc c) e = refl
done_reply s call point (command.ModPrinc c) e = refl
done_reply s call point (command.ChangeKeys c) e = refl
done_reply s call point (command.RenPrinc c) e = refl
done_reply s call point (command.DelPrinc name) e = refl
done_reply s call point (command.GetPrinc name) e = refl
done_reply s call point (command.ListPrincs glob) e = refl
done_reply s call point (command.PurgeKeys c) e = refl
done_reply s call point (command.SetString c) e = refl
done_reply s call point (command.DelString c) e = refl
done_reply s call point (command.GetStrings name) e = refl
done_reply s call point (command.Extract name) e = refl
done_reply s call point (command.AddPolicy p) e = refl
done_reply s call point (command.ModPolicy c) e = refl
done_reply s call point (command.DelPolicy name) e = refl
done_reply s call point (command.GetPolicy name) e = refl
done_reply s call point command.ListPolicies e = refl
done_reply s call point command.GetPrivs e = refl
done_reply s call point (command.AddMaster etype) e = absurd cc
done_reply s call point (command.UseMaster c) e = absurd cc
done_reply s call point command.ListMasters e = absurd cc
done_reply s call point command.PurgeMasters e = absurd cc
done_reply s call point (command.RekeyPrincs glob) e = absurd cc
done_reply s call point command.Stash e = absurd cc
done_reply s call point command.Dump e = absurd cc

-- ---- steps

pub step_commits : (s : State) (call : Call) (plain : PlainOp) → refusal s call ≡ None → entry s call ≡ Some plain
    → step s call ≡ committed s call plain
unfolding step unless_refused performed
step_commits s call plain accepted is = ap (unless_refused s call) accepted ∙ ap (performed s call) is

pub step_reads : (s : State) (call : Call) → refusal s call ≡ None → entry s call ≡ None
    → step s call ≡ answered s (reading s call)
unfolding step unless_refused performed
step_reads s call accepted is = ap (unless_refused s call) accepted ∙ ap (performed s call) is

pub step_refuses : (s : State) (call : Call) (why : Refusal) → refusal s call ≡ Some why
    → step s call ≡ answered s (Refused why)
unfolding step unless_refused
step_refuses s call why is = ap (unless_refused s call) is

-- the state of an outcome whose step is known
abbrev pub outcome_of : Kind → steps.Outcome → Outcome
outcome_of kind o = record { state = o.state; answer = Replied o.reply; kind = kind }

pub commanded_is : (s : State) (call : Call) (due : Bool) (o : steps.Outcome) (kind : Kind) → step s (told due call) ≡ o
    → kind_of s call (refusal s (told due call)) ≡ kind → commanded call due s ≡ outcome_of kind o
unfolding commanded
commanded_is s call due o kind stepped is =
    ap (outcome_of (kind_of s call (refusal s (told due call)))) stepped ∙ ap (λ (k : Kind). outcome_of k o) is

-- ---- what is performed

-- what is made is read off the plan
pub kept_performs : (p : Place) (s : State) (ask : Ask) (answer : Answer)
    → outcome p.rows ask (due_at ask (seen p s)) s ≡ kept s answer → Performs p s ask answer []
kept_performs p s ask answer e =
    let plan : plan_at ask (seen p s) ≡ Keep =
    ap (λ (o : Outcome). planned o.kind (kept_op p.rows s ask) (stash_of s (moment_at (clock_of ask) p))) e in
    record {
      answers = sym (ap (λ (o : Outcome). o.answer) e);
      leads = subst (λ (x : Plan). Leads (clock_of ask) p s (outcome p.rows ask (due_at ask (seen p s)) s).state x)
          (sym plan) (ap (λ (o : Outcome). o.state) e);
      fit = subst (MayBeFit p) (sym plan) tt;
      is = sym (ap (λ (x : Plan). made_by ask x p) plan);
    }

pub put_performs : (p : Place) (s : State) (ask : Ask) (answer : Answer) (op : Op) (after : State)
    → outcome p.rows ask (due_at ask (seen p s)) s ≡ record { state = after; answer = answer; kind = Enters }
    → kept_op p.rows s ask ≡ Some op → Leads (clock_of ask) p s after (Put op) → IsFit p op
    → Performs p s ask answer (changed ask op p)
put_performs p s ask answer op after e is leads fit =
    let kind : plan_at ask (seen p s)
    ≡ planned Enters (kept_op p.rows s ask) (stash_of s (moment_at (clock_of ask) p)) =
    ap (λ (o : Outcome). planned o.kind (kept_op p.rows s ask) (stash_of s (moment_at (clock_of ask) p))) e in
    let plan : plan_at ask (seen p s) ≡ Put op =
    kind ∙ ap (λ (o : Option Op). planned Enters o (stash_of s (moment_at (clock_of ask) p))) is in
    record {
      answers = sym (ap (λ (o : Outcome). o.answer) e);
      leads = subst (λ (x : Plan). Leads (clock_of ask) p s (outcome p.rows ask (due_at ask (seen p s)) s).state x)
          (sym plan)
          (subst (λ (x : State). Leads (clock_of ask) p s x (Put op)) (sym (ap (λ (o : Outcome). o.state) e)) leads);
      fit = subst (MayBeFit p) (sym plan) fit;
      is = sym (ap (λ (x : Plan). made_by ask x p) plan);
    }

module _ (laws : StepLaws) (p : Place) (s : State) (client : NameParts) (access : Option (List AclLine)) (cmd : Command)
    (clock : Moment) (random : List ℕ) where
  abbrev pub call : Call
  call = call_of client access cmd clock random false

  abbrev pub ask : Ask
  ask = Commanded call

  refused_told : (why : Refusal) (due : Bool) → refusal s call ≡ Some why → refusal s (told due call) ≡ Some why
  refused_told why false e = e
  refused_told why true e = laws.refused s call why e

  refused_is : (why : Refusal) (due : Bool) → refusal s call ≡ Some why
      → commanded call due s ≡ kept s (Replied (Refused why))
  unfolding kind_of
  refused_is why due e =
      let told_ = refused_told why due e in
      commanded_is s call due (answered s (Refused why)) Keeps (step_refuses s (told due call) why told_)
      (ap (kind_of s call) told_)

  pub refused : (why : Refusal) → refusal s call ≡ Some why → Performs p s ask (Replied (Refused why)) []
  unfolding outcome
  refused why e = kept_performs p s ask (Replied (Refused why)) (refused_is why (due_at ask (seen p s)) e)

  -- ---- what is read

  pub reads_told : (due : Bool) → refusal s call ≡ None → entry s call ≡ None
      → step s (told due call) ≡ answered s (reading s call)
  reads_told false accepted is = step_reads s call accepted is
  reads_told true accepted is = laws.reading s call accepted is ∙ step_reads s call accepted is

  keeps : (why : Option Refusal) → is_planned cmd ≡ true → entry s call ≡ None → kind_of s call why ≡ Keeps
  unfolding kind_of
  keeps (Some why) planned_ is = refl
  keeps None planned_ is = ap (λ (o : Option PlainOp). kind_by (is_some o) cmd) is ∙ no_stash false cmd planned_

  pub answers : (reply : Reply) → is_planned cmd ≡ true → IsAnswer s call reply → Performs p s ask (Replied reply) []
  unfolding outcome
  answers reply planned_ is =
      let due = due_at ask (seen p s) in
      kept_performs p s ask (Replied reply)
      (commanded_is s call due (answered s (reading s call)) Keeps (reads_told due is.accepted is.no_entry)
      (keeps (refusal s (told due call)) planned_ is.no_entry)
      ∙ ap (λ (r : Reply). kept s (Replied r)) (sym is.reply_is))

  -- ---- what is changed

  pub accepted_told : (due : Bool) (plain : PlainOp) → (due ≡ true → is_last s.point.time ≡ false)
      → refusal s call ≡ None → entry s call ≡ Some plain → refusal s (told due call) ≡ None
  accepted_told false plain more accepted is = accepted
  accepted_told true plain more accepted is = laws.accepted s call plain accepted is (more refl)

  enters : is_planned cmd ≡ true → (plain : PlainOp) → entry s call ≡ Some plain → kind_of s call None ≡ Enters
  unfolding kind_of
  enters planned_ plain is = ap (λ (o : Option PlainOp). kind_by (is_some o) cmd) is ∙ no_stash true cmd planned_

  -- a change of a command that rows alone decide is the one that is kept
  kept_exact : (op : Op) → kept_entry p.rows s call ≡ Some op
      → option_or (kept_entry p.rows s call) (kept_masters p.rows s call) ≡ Some op
  kept_exact op is = ap (λ (o : Option Op). option_or o (kept_masters p.rows s call)) is

  -- the point of the change is that of its entry
  pub point_is : (op : Op) (due : Bool) → is_due op p ≡ due → s.point ≡ point_of p
      → change_point s (told due call) ≡ entry_point clock op p
  unfolding point_after
  point_is op false e at = ap (λ (x : Point). record { sno = x.sno + 1; time = later_moment x.time clock }) at
      ∙ sym (ap (λ (b : Bool). if b then record {
        sno = 2;
        time = (reset_point clock p).time;
      } else next_point (moment_at clock p) p) e)
  point_is op true e at =
      ap (λ (x : Point). let made : Point = record { sno = 2; time = later_moment clock (next_moment x.time) } in made)
      at ∙ sym (ap (λ (b : Bool). if b then record {
        sno = 2;
        time = (reset_point clock p).time;
      } else next_point (moment_at clock p) p) e)

  changed_at : (op : Op) (due : Bool) → is_due op p ≡ due → is_planned cmd ≡ true → IsReady p s cmd clock random op
      → IsChange p.rows s call op → (due_is : due_at ask (seen p s) ≡ due)
      → Performs p s ask (Replied (Done (entry_point clock op p))) (changed ask op p)
  unfolding outcome kept_op
  changed_at op due e planned_ ready is due_is =
      let more : due ≡ true → is_last s.point.time ≡ false = λ (d : due ≡ true). ready.more (e ∙ d) in
      let accepted = accepted_told due is.plain more is.accepted is.entry_is in
      let stepped = step_commits s (told due call) is.plain accepted (laws.entry_told s call due ∙ is.entry_is) in
      let point = point_is op due e ready.shows.at in
      let serial : (told due call).due ≡ false → s.point.sno < 4294967295 = λ (d : due ≡ false). ready.serial (e ∙ d) in
      let valid_before : IsValid s.point.time s =
      subst (λ (x : Point). IsValid x.time s) (sym ready.shows.at) ready.shows.valid in
      let stepping : IsStep s (told due call) = record {
        valid = valid_before;
        point = ready.point;
        command = ready.command;
        clock = ready.clock_is;
        random = ready.random_is;
        serial = serial;
      } in
      let spared =
      laws.ordinary s is.plain (laws.spares s call is.plain is.accepted is.entry_is (no_master_line cmd planned_)) in
      let after : State = at_point (change_point s (told due call)) (effect_on is.plain s) in
      let state_is : (step s (told due call)).state ≡ after = ap (λ (o : steps.Outcome). o.state) stepped in
      let shown = shows_at (effect (Some op) p.rows) (change_point s (told due call)) (effect_on is.plain s)
      (laws.shown p.rows s ready.shows.shows.history op is.plain ready.shows.shows ready.shows.shows.history_is
      (is.shown ready.shows.shows.history ready.shows.shows.history_is) spared) in
      let valid : IsValid (change_point s (told due call)).time after =
      subst (λ (x : State). IsValid x.point.time x) state_is (laws.valid s (told due call) stepping) in
      let leads : IsLeft p.realm (entry_point clock op p) op p.rows after = record {
        same = sym (ap (λ (x : State). x.realm) state_is) ∙ (laws.realm s (told due call) ∙ ready.shows.realm);
        at = point;
        shows = shown;
        valid = subst (λ (x : Point). IsValid x.time after) point valid;
      } in
      let fit : IsFit p op = record { newer = ready.newer; fits = ready.fits; left = ready.left } in
      let reply : change_reply s (told due call) (change_point s (told due call)) cmd ≡ Done (entry_point clock op p) =
      done_reply s (told due call) (change_point s (told due call)) cmd planned_ ∙ ap Done point in
      let outcome_is : commanded call due s
      ≡ record { state = after; answer = Replied (Done (entry_point clock op p)); kind = Enters } =
      commanded_is s call due (committed s (told due call) is.plain) Enters stepped
      (ap (kind_of s call) accepted ∙ enters planned_ is.plain is.entry_is)
      ∙ ap (λ (r : Reply). let made : Outcome = record { state = after; answer = Replied r; kind = Enters } in made)
      reply in
      put_performs p s ask (Replied (Done (entry_point clock op p))) op after
      (ap (λ (d : Bool). commanded call d s) due_is ∙ outcome_is) (kept_exact op is.exact) leads fit

  pub changes : (op : Op) → is_planned cmd ≡ true → IsReady p s cmd clock random op → IsChange p.rows s call op
      → Performs p s ask (Replied (Done (entry_point clock op p))) (changed ask op p)
  unfolding kept_op
  changes op planned_ ready is = changed_at op (is_due op p) refl planned_ ready is
      (ap (λ (o : Option Op). is_due_of o p) (kept_exact op is.exact))
