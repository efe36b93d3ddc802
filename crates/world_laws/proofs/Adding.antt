-- A policy is added: what the step does, as what the primary performs of its place.
use Rattle.std.proofs.Common.{◌≡◌, ◌+◌, ◌<◌, ◌≤◌, inl, inr, Bool, true, false, [], ◌∷◌}
use Rattle.std.proofs.Common.{length, Option, Some, None, refl, sym, ◌∙◌, ap, subst, arith}
use Rattle.std.specs.Prelude.{nat_le, nat_lt, if◌then◌else◌}
use Rattle.std.proofs.lemmas.Bool.{le-leb, lt-leb, ltb-true, true≢false}
use Rattle.master_keys.proofs.SideBySide.{zip_length}
use Rattle.kadm_commands.specs.declared.commands.Command.TheVariants as command
use Rattle.kadm_commands.specs.declared.replies.Reply.TheVariants as reply
use Rattle.kdb_base.specs.Limits.{most_rows}
use Rattle.kdb_base.specs.Moments.{later_moment, micros}
use Rattle.kdb_base.specs.declared.moments.Point.{Point}
use Rattle.kdb_histories.proofs.Growing.{StaysValid}
use Rattle.kdb_histories.specs.Asks.{Enters, Kind, Outcome, Replied, commanded, kept_op, kind_of, outcome}
use Rattle.kdb_histories.specs.Calls.{IsFit, Leads, MayBeFit, Performs}
use Rattle.kdb_histories.specs.Moves.{IsLeft}
use Rattle.kdb_histories.specs.Seen.{Plan, Put, Seen, answer_at, did, due_at, entry_point}
use Rattle.kdb_histories.specs.Seen.{is_due, is_due_of, made_at, made_by, moment_at, outcome_at}
use Rattle.kdb_histories.specs.Seen.{plan_at, planned, reset_for, reset_point, seen, stash_of}
use Rattle.kdb_histories.specs.Stages.{Anew, ShowsAt, stage}
use Rattle.kdb_model.proofs.Moments.{by_secs}
use Rattle.kdb_model.proofs.Stepping.{truth}
use Rattle.kdb_model.specs.Calls.{Call, call_of, change_point, point_after}
use Rattle.kdb_model.specs.Entries.{entry_of}
use Rattle.kdb_model.specs.Laws.{IsMoment, at_point}
use Rattle.kdb_model.specs.Refusals.{bytes_put, causes_with, first, refusal}
use Rattle.kdb_model.specs.Steps as model
use Rattle.kdb_model.specs.Steps.{change_reply, performed, step, unless_refused}
use Rattle.kdb_places.specs.Applying.{may_apply}
use Rattle.kdb_places.specs.Places.{Place, committed, point_of}
use Rattle.kdb_plain.proofs.Valid.{put_policy_valid}
use Rattle.kdb_plain.specs.Changes.{effect_on, policy_name, put_policy}
use Rattle.kdb_plain.specs.States.{IsValid, has_policy, policy_named}
use Rattle.kdb_plain.specs.declared.changes.PlainOp.TheVariants.{PutPolicy}
use Rattle.kdb_plain.specs.declared.states.State.{State}
use Rattle.command_plans.specs.KeptEntries.{kept_entry_of}
use Rattle.princ_rows.specs.declared.entries.Op.{Op}
use Rattle.princ_record.specs.Policies.{IsPolicy}
use Rattle.policy_rules.specs.Rules.{Rules}
use Rattle.princ_rows.specs.Effects.{effect, put_by, put_policy as put_policy_row}
use Rattle.row_keys.proofs.Effects.{change_shows_at, shows_at}
use Rattle.row_keys.specs.Shows.{ShowsPrinc}
use Rattle.world_laws.specs.Examples.{Adding, added_point, added_stage, adding_ask, adding_op}

-- The place has no policy yet and room for one, and the log need not begin anew for it.
pub record MayAdd (a : Adding) (p : Place) (s : State) : Type 0 where
  pub shows : ShowsAt p s
  pub none : s.policies ≡ []
  pub room : length s.princs < most_rows
  pub policy : IsPolicy a.policy
  pub clock : IsMoment a.clock
  pub newer : p.format ≡ 2
  pub due : is_due (adding_op a) p ≡ false

-- ---- the step

module _ (a : Adding) (p : Place) (s : State) (h : MayAdd a p s) where
  -- told that the log need not begin anew
  abbrev Given : Call
  Given = call_of a.client None (command.AddPolicy a.policy) a.clock a.random false

  no_policy : has_policy a.policy.name s.policies ≡ false
  unfolding policy_named
  no_policy = rw h.none refl

  few : nat_le most_rows (length s.princs + length s.policies) ≡ false
  few = rw h.none (lt-leb most_rows (length s.princs + 0) (omega (arith, h.room)))

  -- no cause holds
  accepted : refusal s Given ≡ None
  unfolding refusal causes_with first entry_of bytes_put
  accepted = rw no_policy (rw few refl)

  stepped : step s Given ≡ model.committed s Given (PutPolicy a.policy)
  unfolding step unless_refused performed entry_of
  stepped = rw accepted refl

  -- ---- what it comes to

  abbrev At : Seen
  At = seen p s

  kept_is : kept_op p.rows s (adding_ask a) ≡ Some (adding_op a)
  unfolding kept_op kept_entry_of
  kept_is = refl

  not_due : due_at (adding_ask a) At ≡ false
  not_due = ap (λ (x : Option Op). is_due_of x p) kept_is ∙ h.due

  came : outcome_at (adding_ask a) At ≡ commanded Given false s
  unfolding outcome
  came = ap (λ (due : Bool). commanded Given due s) not_due

  came_kind : (commanded Given false s).kind ≡ Enters
  unfolding commanded kind_of entry_of
  came_kind = rw accepted refl

  came_state : (commanded Given false s).state ≡ at_point (change_point s Given) (put_policy a.policy s)
  unfolding commanded effect_on
  came_state = ap (λ (x : model.Outcome). x.state) stepped

  came_answer : (commanded Given false s).answer ≡ Replied (reply.Done (change_point s Given))
  unfolding commanded change_reply
  came_answer = ap (λ (x : model.Outcome). Replied x.reply) stepped

  plan_is : plan_at (adding_ask a) At ≡ Put (adding_op a)
  plan_is =
      let bytes = stash_of s (moment_at a.clock p) in
      ap (λ (x : Outcome). planned x.kind (kept_op p.rows s (adding_ask a)) bytes) came
      ∙ ap (λ (x : Kind). planned x (kept_op p.rows s (adding_ask a)) bytes) came_kind
      ∙ ap (λ (x : Option Op). planned Enters x bytes) kept_is

  made_is : made_at (adding_ask a) At ≡ added_stage a p ∷ []
  made_is =
      let anew = stage (reset_for a.clock (adding_op a) p) Anew ∷ did (adding_ask a) true (adding_op a) p
      (committed (adding_op a) (reset_point a.clock p).time (reset_for a.clock (adding_op a) p)) ∷ [] in
      ap (λ (x : Plan). made_by (adding_ask a) x p) plan_is
      ∙ ap (λ (x : Bool). if x then anew else added_stage a p ∷ []) h.due

  -- ---- the point and the state

  point_is : change_point s Given ≡ added_point a p
  unfolding point_after
  point_is =
      ap (λ (x : Point). let y : Point = record { sno = x.sno + 1; time = later_moment x.time a.clock } in y) h.shows.at

  entry_at : entry_point a.clock (adding_op a) p ≡ added_point a p
  entry_at =
      let anew : Point = record { sno = 2; time = (reset_point a.clock p).time } in
      ap (λ (x : Bool). if x then anew else added_point a p) h.due

  put_one : length (put_by policy_name a.policy s.policies) ≡ 1
  unfolding put_by
  put_one = rw h.none refl

  put_row : length (put_by (λ (x : Rules). x.name) a.policy p.rows.policies) ≡ 1
  unfolding put_by
  put_row = rw (h.shows.shows.policies ∙ h.none) refl

  added_since : (point_of p).time.secs ≤ (added_point a p).time.secs
  added_since = elim (truth (nat_lt (micros (point_of p).time) (micros a.clock))) [
    | inl e ↦ rw e (by_secs (point_of p).time a.clock h.clock.usecs (omega (
      arith,
      ltb-true (micros (point_of p).time) (micros a.clock) e,
    )))
    | inr e ↦ rw e (omega arith)
  ]

  still_valid : StaysValid → IsValid (added_point a p).time (at_point (added_point a p) (put_policy a.policy s))
  still_valid valid =
      let put =
      put_policy_valid (point_of p).time s a.policy h.shows.valid h.policy (rw put_one (omega (arith, h.room))) in
      let later = valid.later (put_policy a.policy s) (point_of p).time (added_point a p).time added_since put in
      valid.point (put_policy a.policy s) (added_point a p).time (added_point a p) later

  left : StaysValid
      → IsLeft p.realm (added_point a p) (adding_op a) p.rows (at_point (added_point a p) (put_policy a.policy s))
  unfolding effect_on
  left valid = record {
    same = h.shows.realm;
    at = refl;
    shows = shows_at (effect (Some (adding_op a)) p.rows) (added_point a p) (put_policy a.policy s)
        (change_shows_at p.rows s h.shows.shows.history (adding_op a)
        (PutPolicy a.policy) h.shows.shows h.shows.shows.history_is refl tt);
    valid = still_valid valid;
  }

  fits : may_apply (adding_op a) p.rows ≡ true
  unfolding may_apply effect put_policy_row
  fits =
      let same = zip_length (ShowsPrinc s.masters h.shows.shows.history) p.rows.princs s.princs h.shows.shows.princs in
      rw put_row (rw (le-leb (length p.rows.princs + 1) most_rows (omega (arith, same, h.room))) refl)

  pub performs : StaysValid
      → Performs p s (adding_ask a) (Replied (reply.Done (added_point a p))) (added_stage a p ∷ [])
  performs valid =
      let state : at_point (added_point a p) (put_policy a.policy s) ≡ (outcome_at (adding_ask a) At).state =
      ap (λ (x : Point). at_point x (put_policy a.policy s)) (sym point_is) ∙ sym came_state
      ∙ ap (λ (x : Outcome). x.state) (sym came) in
      let answer : Replied (reply.Done (added_point a p)) ≡ answer_at (adding_ask a) At =
      ap (λ (x : Point). Replied (reply.Done x)) (sym point_is) ∙ sym came_answer
      ∙ ap (λ (x : Outcome). x.answer) (sym came) in
      let there = subst (λ (x : State). IsLeft p.realm (added_point a p) (adding_op a) p.rows x) state (left valid) in
      let here = subst (λ (x : Point). IsLeft p.realm x (adding_op a) p.rows (outcome_at (adding_ask a) At).state)
      (sym entry_at) there in
      let fit : IsFit p (adding_op a) =
      record {
        newer = h.newer;
        fits = fits;
        left = λ (due : is_due (adding_op a) p ≡ true). absurd (true≢false (sym due ∙ h.due));
      } in
      record {
        answers = answer;
        leads = subst (Leads a.clock p s (outcome_at (adding_ask a) At).state) (sym plan_is) here;
        fit = subst (MayBeFit p) (sym plan_is) fit;
        is = sym made_is;
      }
