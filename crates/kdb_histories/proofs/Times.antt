-- The moment of a change, and that of a log begun anew.
use Rattle.std.proofs.Common.{◌≡◌, ◌+◌, ◌<◌, ◌≤◌, inl, inr, arith, eqb-true}
use Rattle.std.specs.Prelude.{nat_eq, nat_lt}
use Rattle.std.proofs.lemmas.Bool.{ltb-true, ltb-false}
use Rattle.kdb_base.specs.Moment.{Moment}
use Rattle.kdb_base.specs.Moments.{ComesBefore, later_moment, micros}
use Rattle.kdb_base.specs.declared.moments.Point.{Point}
use Rattle.kdb_histories.specs.Seen.{moment_at, reset_point}
use Rattle.kdb_model.proofs.Moments.{by_secs}
use Rattle.kdb_model.proofs.Stepping.{truth}
use Rattle.kdb_model.specs.Calls.{next_moment}
use Rattle.kdb_model.specs.Laws.{IsMoment}
use Rattle.kdb_places.specs.Places.{Place, point_of}

-- the later of two is one of them
later_cases : (P : Moment → Type 0) (a b : Moment) → (micros a < micros b → P b) → (micros b ≤ micros a → P a)
    → P (later_moment a b)
later_cases P a b second first = elim (truth (nat_lt (micros a) (micros b))) [
  | inl e ↦ rw e (second (ltb-true (micros a) (micros b) e))
  | inr e ↦ rw e (first (ltb-false (micros a) (micros b) e))
]

next_micros : (m : Moment) → micros (next_moment m) ≡ micros m + 1
unfolding next_moment
next_micros m = elim (truth (nat_eq m.usecs 999999)) [
  | inl e ↦ let is = eqb-true m.usecs 999999 e in rw e (omega arith)
  | inr e ↦ rw e (omega arith)
]

next_secs : (m : Moment) → m.secs ≤ (next_moment m).secs
unfolding next_moment
next_secs m = elim (truth (nat_eq m.usecs 999999)) [
  | inl e ↦ rw e (omega arith)
  | inr e ↦ rw e (omega arith)
]

pub change_not_before : (clock : Moment) (p : Place) → micros (point_of p).time ≤ micros (moment_at clock p)
change_not_before clock p =
    later_cases (λ m. micros (point_of p).time ≤ micros m) (point_of p).time clock (λ lt. omega (arith, lt))
    (λ le. omega arith)

pub reset_later : (clock : Moment) (p : Place) → micros (point_of p).time < micros (reset_point clock p).time
reset_later clock p =
    let next = next_moment (point_of p).time in
    let one = next_micros (point_of p).time in
    later_cases (λ m. micros (point_of p).time < micros m) clock next (λ lt. omega (arith, one))
    (λ le. omega (arith, one, le))

pub reset_since : (clock : Moment) (p : Place) → IsMoment clock
    → (point_of p).time.secs ≤ (reset_point clock p).time.secs
reset_since clock p is =
    let next = next_moment (point_of p).time in
    let one = next_micros (point_of p).time in
    later_cases (λ m. (point_of p).time.secs ≤ m.secs) clock next (λ lt. next_secs (point_of p).time)
    (λ le. by_secs (point_of p).time clock is.usecs (omega (arith, one, le)))

-- the next serial, at a time that is not before
pub next_behind : (a : Point) (time : Moment) → micros a.time ≤ micros time
    → ComesBefore a (record { sno = a.sno + 1; time = time })
next_behind a time le = elim (truth (nat_lt (micros a.time) (micros time))) [
  | inl e ↦ inl (ltb-true (micros a.time) (micros time) e)
  | inr e ↦ let ge = ltb-false (micros a.time) (micros time) e in inr (omega (arith, le, ge), omega arith)
]

pub before_all : (a b c : Point) → ComesBefore a b → ComesBefore b c → ComesBefore a c
before_all a b c (inl x) (inl y) = inl (omega (arith, x, y))
before_all a b c (inl x) (inr y) = let e = y.0 in inl (omega (arith, x, e))
before_all a b c (inr x) (inl y) = let e = x.0 in inl (omega (arith, e, y))
before_all a b c (inr x) (inr y) =
    let e = x.0 in
    let f = y.0 in
    let s = x.1 in
    let t = y.1 in
    inr (omega (arith, e, f), omega (arith, s, t))

pub never_before : (a : Point) → ComesBefore a a → ⊥
never_before a (inl x) = absurd (omega (arith, x))
never_before a (inr x) = let s = x.1 in absurd (omega (arith, s))
