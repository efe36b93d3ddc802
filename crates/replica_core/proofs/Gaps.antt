-- Updates that run on from a point.
use Rattle.std.proofs.Common.{◌≡◌, ◌≢◌, ◌≤◌, ◌+◌, ℕ, Bool, true, false, ◌&&◌, not, List}
use Rattle.std.proofs.Common.{[], ◌∷◌, length, Some, None, refl, sym, ap, ◌∙◌, arith}
use Rattle.std.specs.Prelude.{if◌then◌else◌, nat_eq, nat_le}
use Rattle.std.proofs.lemmas.Bool.{and_parts, eqb-true, leb-true}
use Rattle.kdb_base.specs.Moments.{micros}
use Rattle.kdb_base.specs.declared.moments.Point.{Point}
use Rattle.princ_rows.specs.declared.entries.Entry.{Entry}
use Rattle.replica_steps.specs.Judging.{Gap, follows, gap_in, has_next, wanted}

-- What is known of an update that follows.
pub record IsNextOf (at : Point) (u : Entry) : Type 0 where
  pub more : at.sno ≢ 4294967295
  pub serial : u.point.sno ≡ at.sno + 1
  pub time : micros at.time ≤ micros u.point.time

based_is : (based : Bool) (at : Point) → has_next based at ≡ true → at.sno ≢ 4294967295
based_is false at e = absurd cc
based_is true at e = by (nat_eq at.sno 4294967295) refl e
  where
    by : (b : Bool) → nat_eq at.sno 4294967295 ≡ b → not b ≡ true → at.sno ≢ 4294967295
    by true is e = absurd cc
    by false is e = λ (same : at.sno ≡ 4294967295). let never : ◌≡◌ {A = Bool} true false =
        sym (ap (λ (n : ℕ). nat_eq n 4294967295) same) ∙ is in absurd cc

pub is_next : (based : Bool) (at : Point) (u : Entry) → follows based at u ≡ true → IsNextOf at u
is_next based at u e =
    let parts = and_parts (has_next based at)
    (nat_eq u.point.sno (at.sno + 1) && nat_le (micros at.time) (micros u.point.time)) e in
    let both = and_parts (nat_eq u.point.sno (at.sno + 1)) (nat_le (micros at.time) (micros u.point.time)) parts.1 in
    record {
      more = based_is based at parts.0;
      serial = eqb-true u.point.sno (at.sno + 1) both.0;
      time = leb-true (micros at.time) (micros u.point.time) both.1;
    }

-- the first of them follows, and the others run on from it
pub runs_on : (based : Bool) (at : Point) (u : Entry) (us : List Entry) → gap_in based at (u ∷ us) ≡ None
    → (follows based at u ≡ true) × (gap_in true u.point us ≡ None)
unfolding gap_in
runs_on based at u us e = by (follows based at u) refl e
  where
    by : (b : Bool)
        → follows based at u ≡ b → (if b then gap_in true u.point us else Some (Gap (wanted based at) u.point)) ≡ None
        → (follows based at u ≡ true) × (gap_in true u.point us ≡ None)
    by true is e = (is, e)
    by false is e = absurd cc

-- serials that run on are few
pub few_run_on : (based : Bool) (at : Point) (us : List Entry) → at.sno ≤ 4294967295 → gap_in based at us ≡ None
    → length us + at.sno ≤ 4294967295
few_run_on based at [] most e = omega (arith, most)
few_run_on based at (u ∷ us) most e =
    let on = runs_on based at u us e in
    let next = is_next based at u on.0 in
    let serial = next.serial in
    let more = next.more in
    let rest = few_run_on true u.point us (omega (arith, most, serial, more)) on.1 in
    omega (arith, rest, serial)

-- the point of an update that follows
pub next_point_is : (based : Bool) (at : Point) (u : Entry) → follows based at u ≡ true
    → ◌≡◌ {A = Point} (record { sno = at.sno + 1; time = u.point.time }) u.point
next_point_is based at u e =
    ap (λ (n : ℕ). let x : Point = record { sno = n; time = u.point.time } in x) (sym (is_next based at u e).serial)
