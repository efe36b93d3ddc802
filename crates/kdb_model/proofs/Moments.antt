-- The point of a change.
use Rattle.std.proofs.Common.{◌≡◌, ℕ, ◌+◌, ◌*◌, ◌<◌, ◌≤◌, ◌^◌, Bool, true, false, ◌&&◌}
use Rattle.std.proofs.Common.{refl, sym, ap, subst, ◌∙◌, ◌⊎◌, inl, inr, arith, eqb-true}
use Rattle.std.specs.Prelude.{if◌then◌else◌, nat_eq, nat_lt}
use Rattle.std.proofs.lemmas.Bool.{ltb-true, ltb-false}
use Rattle.kdb_base.specs.Moment.{Moment}
use Rattle.kdb_base.specs.Moments.{later_moment, micros}
use Rattle.kdb_base.specs.declared.moments.Point.{Point}
use Rattle.kdb_model.specs.Calls.{Call, change_point, is_last, moment_of, next_moment, point_after}
use Rattle.kdb_model.specs.Laws.{IsMoment, IsPoint}
use Rattle.kdb_plain.specs.declared.states.State.{State}
use Rattle.kdb_model.proofs.Stepping.{truth}

first_later : (a b : Moment) → micros a ≤ micros (later_moment a b)
first_later a b = elim (truth (nat_lt (micros a) (micros b))) [
  | inl e ↦ rw e (omega (arith, ltb-true (micros a) (micros b) e))
  | inr e ↦ rw e (omega arith)
]

second_later : (a b : Moment) → micros b ≤ micros (later_moment a b)
second_later a b = elim (truth (nat_lt (micros a) (micros b))) [
  | inl e ↦ rw e (omega arith)
  | inr e ↦ rw e (omega (arith, ltb-false (micros a) (micros b) e))
]

later_is : (a b : Moment) → IsMoment a → IsMoment b → IsMoment (later_moment a b)
later_is a b f g = elim (truth (nat_lt (micros a) (micros b))) [
  | inl e ↦ rw e g
  | inr e ↦ rw e f
]

one_later : (m : Moment) → m.usecs < 1000000 → micros m ≤ micros (next_moment m)
unfolding next_moment
one_later m lt = elim (truth (nat_eq m.usecs 999999)) [
  | inl e ↦ let is = eqb-true m.usecs 999999 e in rw e (omega arith)
  | inr e ↦ rw e (omega arith)
]

last_parts : (a b : Bool) → (a && b) ≡ false → b ≡ true → a ≡ false
last_parts true true e is = absurd cc
last_parts false b e is = refl
last_parts true false e is = absurd cc

not_greatest : (n : ℕ) → n < 2 ^ 32 → nat_eq n 4294967295 ≡ false → n + 1 < 2 ^ 32
not_greatest n lt e = grind arith

not_whole : (n : ℕ) → n < 1000000 → nat_eq n 999999 ≡ false → n + 1 < 1000000
not_whole n lt e = grind arith

next_is : (m : Moment) → IsMoment m → is_last m ≡ false → IsMoment (next_moment m)
unfolding next_moment
next_is m f more = elim (truth (nat_eq m.usecs 999999)) [
  | inl e ↦ rw e (record {
    secs = not_greatest m.secs f.secs (last_parts (nat_eq m.secs 4294967295) (nat_eq m.usecs 999999) more e);
    usecs = omega arith;
  })
  | inr e ↦ rw e (record { secs = f.secs; usecs = not_whole m.usecs f.usecs e })
]

pub by_secs : (a b : Moment) → b.usecs < 1000000 → micros a ≤ micros b → a.secs ≤ b.secs
by_secs a b lt le = omega arith

module _ (s : State) (call : Call) (p : IsPoint s.point) (c : IsMoment call.moment) where
  pub moment_is : IsMoment (moment_of s call)
  moment_is = later_is s.point.time call.moment p.time c

  -- the moment of a command is not behind the time of its change
  pub moment_before : (due : Bool) → call.due ≡ due → micros (moment_of s call) ≤ micros (change_point s call).time
  unfolding point_after
  moment_before false e = rw e (omega arith)
  moment_before true e =
      let next = next_moment s.point.time in
      let time = later_moment call.moment next in
      let over = one_later s.point.time p.time.usecs in
      rw e (elim (truth (nat_lt (micros s.point.time) (micros call.moment))) [
        | inl f ↦ rw f (first_later call.moment next)
        | inr f ↦ rw f (omega (arith, over, second_later call.moment next))
      ])

  pub state_before : micros s.point.time ≤ micros (moment_of s call)
  state_before = first_later s.point.time call.moment

  -- the time of a change, where it is not behind the greatest
  pub point_is : (due : Bool) → call.due ≡ due → (due ≡ false → s.point.sno < 4294967295)
      → (due ≡ true → is_last s.point.time ≡ false) → IsPoint (change_point s call)
  unfolding point_after
  point_is false e serial more = let lt = serial refl in rw e (record { sno = omega arith; time = moment_is })
  point_is true e serial more = rw e (record {
    sno = omega arith;
    time = later_is call.moment (next_moment s.point.time) c (next_is s.point.time p.time (more refl));
  })
