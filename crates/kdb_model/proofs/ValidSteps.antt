-- A step keeps a valid state valid.
use Rattle.std.proofs.Common.{◌≡◌, ℕ, ◌<◌, ◌≤◌, Bool, true, false, ◌&&◌, Option, Some}
use Rattle.std.proofs.Common.{None, refl, sym, ap, subst, ◌∙◌, ◌⊎◌, inl, inr, arith}
use Rattle.std.specs.Prelude.{is_some}
use Rattle.kdb_base.specs.Moment.{Moment}
use Rattle.kdb_base.specs.Moments.{micros}
use Rattle.kdb_base.specs.declared.moments.Point.{Point}
use Rattle.kdb_base.specs.declared.outcomes.Refusal.TheVariants.{TimeEnd}
use Rattle.kdb_model.specs.Calls.{Call, change_point, is_last, moment_of}
use Rattle.kdb_model.specs.Entries.{entry}
use Rattle.kdb_model.specs.Laws.{IsPoint, IsStep}
use Rattle.kdb_model.specs.Refusals.{ended, refusal}
use Rattle.kdb_model.specs.Steps.{Outcome, step}
use Rattle.kdb_plain.specs.Changes.{effect_on}
use Rattle.kdb_plain.specs.States.{IsValid, IsValidState}
use Rattle.kdb_plain.specs.declared.changes.PlainOp.{PlainOp}
use Rattle.kdb_plain.specs.declared.states.State.{State}
use Rattle.kdb_plain.proofs.Valid.{point_valid}
use Rattle.kdb_model.proofs.Accepted.{accepted, when_none}
use Rattle.kdb_model.proofs.Moments.{by_secs, moment_before, moment_is, point_is, state_before}
use Rattle.kdb_model.proofs.Stepping.{accepted_parts, either_way, step_commits, step_keeps, step_refused}
use Rattle.kdb_model.proofs.ValidChanges.{change_valid}

abbrev pub StaysValid : Type 0
StaysValid = (s : State) (early late : Moment) → early.secs ≤ late.secs → IsValid early s → IsValid late s

second_false : (a b c : Bool) → (a && b && c) ≡ false → a ≡ true → b ≡ true → c ≡ false
second_false true true c e x y = e
second_false true false c e x y = absurd cc
second_false false b c e x y = absurd cc

module _ (s : State) (call : Call) (h : IsStep s call) where
  more_time : (op : PlainOp) → refusal s call ≡ None → entry s call ≡ Some op → call.due ≡ true
      → is_last s.point.time ≡ false
  more_time op accepted_now e due =
      let no_end = when_none (is_some (entry s call) && call.due && is_last s.point.time) TimeEnd
      (accepted_parts s call accepted_now).1 in
      second_false (is_some (entry s call)) call.due (is_last s.point.time) no_end (ap is_some e) due

  new_point : (op : PlainOp) → refusal s call ≡ None → entry s call ≡ Some op → IsPoint (change_point s call)
  new_point op accepted_now e = point_is s call h.point h.clock call.due refl h.serial (more_time op accepted_now e)

  state_then : (op : PlainOp) → refusal s call ≡ None → entry s call ≡ Some op
      → (step s call).state ≡ record (effect_on op s) { point = change_point s call }
  state_then op accepted_now e = ap (λ (o : Outcome). o.state) (step_commits s call op accepted_now e)

  moment_secs : (op : PlainOp) → refusal s call ≡ None → entry s call ≡ Some op
      → (moment_of s call).secs ≤ (change_point s call).time.secs
  moment_secs op accepted_now e =
      let point = new_point op accepted_now e in
      by_secs (moment_of s call) (change_point s call).time point.time.usecs
      (moment_before s call h.point h.clock call.due refl)

  valid_then : StaysValid → (op : PlainOp) → refusal s call ≡ None → entry s call ≡ Some op
      → IsValidState (record (effect_on op s) { point = change_point s call })
  valid_then later op accepted_now e =
      let moment = moment_of s call in
      let now : IsValid moment s = later s s.point.time moment (by_secs s.point.time moment
      (moment_is s call h.point h.clock).usecs (state_before s call h.point h.clock)) h.valid in
      let change = subst (λ (o : Option PlainOp). Rattle.kdb_model.proofs.Accepted.IsAccepted s call call.command o) e
      (accepted s call (entry s call) (accepted_parts s call accepted_now).0) in
      let next = change_valid s call now call.command op h.command change e in
      point_valid (effect_on op s) (change_point s call).time (change_point s call)
      (later (effect_on op s) moment (change_point s call).time (moment_secs op accepted_now e) next)

  pub step_valid : StaysValid → IsValidState (step s call).state
  step_valid later = elim (either_way (refusal s call)) [
    | inl refused ↦
        subst IsValidState (sym (ap (λ (o : Outcome). o.state) (step_refused s call refused.0 refused.1))) h.valid
    | inr accepted_now ↦
        elim (either_way (entry s call)) [
          | inl change ↦ subst IsValidState (sym (state_then change.0 accepted_now change.1))
              (valid_then later change.0 accepted_now change.1)
          | inr none ↦ subst IsValidState (sym (step_keeps s call none)) h.valid
        ]
  ]

  pub step_point : IsPoint (step s call).state.point
  step_point = elim (either_way (refusal s call)) [
    | inl refused ↦
        subst (λ (o : Outcome). IsPoint o.state.point) (sym (step_refused s call refused.0 refused.1)) h.point
    | inr accepted_now ↦
        elim (either_way (entry s call)) [
          | inl change ↦ subst (λ (t : State). IsPoint t.point) (sym (state_then change.0 accepted_now change.1))
              (new_point change.0 accepted_now change.1)
          | inr none ↦ subst (λ (t : State). IsPoint t.point) (sym (step_keeps s call none)) h.point
        ]
  ]

  not_before : (op : PlainOp) → micros s.point.time ≤ micros (change_point s call).time
  not_before op = omega (arith, state_before s call h.point h.clock, moment_before s call h.point h.clock call.due refl)

  pub step_later : micros s.point.time ≤ micros (step s call).state.point.time
  step_later = elim (either_way (refusal s call)) [
    | inl refused ↦ rw (step_refused s call refused.0 refused.1) (omega arith)
    | inr accepted_now ↦
        elim (either_way (entry s call)) [
          | inl change ↦ rw (state_then change.0 accepted_now change.1) (not_before change.0)
          | inr none ↦ rw (step_keeps s call none) (omega arith)
        ]
  ]
