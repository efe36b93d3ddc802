-- The entries that are held against their serials.
use Rattle.std.proofs.Common.{ℕ, zero, suc, ◌≡◌, ◌≢◌, ◌+◌, ◌-◌, ◌<◌, ◌≤◌, Bool, true, false, ◌&&◌, List}
use Rattle.std.proofs.Common.{[], ◌∷◌, length, Option, Some, None, refl, sym, ap, subst, ◌∙◌, arith}
use Rattle.std.specs.Prelude.{nat_eq, slice_index_or, if◌then◌else◌}
use Rattle.std.proofs.lemmas.Bool.{and_parts, eqb-true, eq-eqb}
use Rattle.kdb_base.specs.Moment.{Moment}
use Rattle.kdb_base.specs.declared.moments.Point.{Point}
use Rattle.princ_rows.specs.declared.entries.Entry.{Entry}
use Rattle.iprop_reply.specs.Polls.{AreHeld, is_moment, is_point, status_of, time_of, updates_after}
use Rattle.iprop_reply.specs.declared.status.Status4.{Status4}
use Rattle.iprop_reply.specs.declared.status.Status4.TheVariants as status

-- the serials run on one by one from the first
unfoldable pub RunsFrom : ℕ → List Entry → Type 0
RunsFrom first [] = Unit {0}
RunsFrom first (e ∷ entries) = (e.point.sno ≡ first) × RunsFrom (first + 1) entries

pub runs_by : (first : ℕ) (entries : List Entry)
    → ((i : ℕ) (d : Entry) → i < length entries → (slice_index_or entries i d).point.sno ≡ first + i)
    → RunsFrom first entries
unfolding RunsFrom
runs_by first [] serials = tt
runs_by first (e ∷ entries) serials =
    let here : e.point.sno ≡ first + 0 = serials 0 e (omega arith) in
    let there : (i : ℕ) (d : Entry) → i < length entries → (slice_index_or entries i d).point.sno ≡ first + 1 + i =
    λ i d within. let next : (slice_index_or entries i d).point.sno ≡ first + suc i =
    serials (suc i) d (omega arith) in omega arith in
    ((omega arith), runs_by (first + 1) entries there)

-- ---- points

moment_is : (a b : Moment) → a.secs ≡ b.secs → a.usecs ≡ b.usecs → a ≡ b
moment_is a b s u =
    ap (λ (n : ℕ). record { secs = n; usecs = a.usecs }) s ∙ ap (λ (n : ℕ). record { secs = b.secs; usecs = n }) u

point_from : (a b : Point) → a.sno ≡ b.sno → a.time ≡ b.time → a ≡ b
point_from a b s t =
    ap (λ (n : ℕ). record { sno = n; time = a.time }) s ∙ ap (λ (m : Moment). record { sno = b.sno; time = m }) t

pub point_is : (a b : Point) → is_point a b ≡ true → a ≡ b
point_is a b same =
    let parts = and_parts (nat_eq a.sno b.sno) (is_moment a.time b.time) same in
    let times = and_parts (nat_eq a.time.secs b.time.secs) (nat_eq a.time.usecs b.time.usecs) parts.1 in
    point_from a b (eqb-true a.sno b.sno parts.0)
    (moment_is a.time b.time (eqb-true a.time.secs b.time.secs times.0) (eqb-true a.time.usecs b.time.usecs times.1))

pub point_same : (a b : Point) → a.sno ≡ b.sno → a.time ≡ b.time → is_point a b ≡ true
point_same a b s t =
    rw (s, t, eq-eqb b.sno b.sno refl, eq-eqb b.time.secs b.time.secs refl, eq-eqb b.time.usecs b.time.usecs refl) refl

-- ---- what is held, and what is not

-- the entry with the serial has the time, and so many come behind it
pub record IsFound (first : ℕ) (asked : Point) (entries us : List Entry) : Type 0 where
  pub time : time_of asked.sno entries ≡ Some asked.time
  pub from : first ≤ asked.sno
  pub count : asked.sno + 1 + length us ≡ first + length entries

found_here : (first : ℕ) (asked : Point) (e : Entry) (entries : List Entry) → e.point.sno ≡ first → e.point ≡ asked
    → IsFound first asked (e ∷ entries) entries
unfolding time_of
found_here first asked e entries s same =
    let n : asked.sno ≡ first = sym (ap (λ (x : Point). x.sno) same) ∙ s in
    record {
      time = rw (eq-eqb e.point.sno asked.sno (ap (λ (x : Point). x.sno) same)) (ap (λ (x : Point). Some x.time) same);
      from = omega arith;
      count = omega arith;
    }

differ : (a b : ℕ) (test : Bool) → nat_eq a b ≡ test → (a ≡ b → ⊥) → test ≡ false
differ a b true e other = absurd (other (eqb-true a b e))
differ a b false e other = refl

found_later : (first : ℕ) (asked : Point) (e : Entry) (entries us : List Entry) → e.point.sno ≡ first
    → IsFound (first + 1) asked entries us → IsFound first asked (e ∷ entries) us
unfolding time_of
found_later first asked e entries us s h =
    let from = h.from in
    let count = h.count in
    let other : e.point.sno ≡ asked.sno → ⊥ = λ (same : e.point.sno ≡ asked.sno). absurd (omega arith) in
    record {
      time = rw (differ e.point.sno asked.sno (nat_eq e.point.sno asked.sno) refl other) h.time;
      from = omega arith;
      count = omega arith;
    }

found_by : (first : ℕ) (asked : Point) (e : Entry) (entries us : List Entry) (here : Bool)
    → is_point e.point asked ≡ here → e.point.sno ≡ first
    → (updates_after asked entries ≡ Some us → IsFound (first + 1) asked entries us)
    → (if here then Some entries else updates_after asked entries) ≡ Some us
    → IsFound first asked (e ∷ entries) us
found_by first asked e entries us true is s others f =
    let same : entries ≡ us = cc in
    subst (IsFound first asked (e ∷ entries)) same (found_here first asked e entries s (point_is e.point asked is))
found_by first asked e entries us false is s others f = found_later first asked e entries us s (others f)

pub found : (first : ℕ) (asked : Point) (entries us : List Entry) → RunsFrom first entries
    → updates_after asked entries ≡ Some us → IsFound first asked entries us
unfolding updates_after RunsFrom
found first asked [] us r f = absurd cc
found first asked (e ∷ entries) us r f =
    found_by first asked e entries us (is_point e.point asked) refl r.0
    (λ g. found (first + 1) asked entries us r.1 g) f

lost_by : (asked : Point) (e : Entry) (entries : List Entry) (here there : Bool) → is_point e.point asked ≡ here
    → nat_eq e.point.sno asked.sno ≡ there
    → (updates_after asked entries ≡ None → time_of asked.sno entries ≢ Some asked.time)
    → (if here then Some entries else updates_after asked entries) ≡ None
    → (if there then Some e.point.time else time_of asked.sno entries) ≢ Some asked.time
lost_by asked e entries true there is at others f = absurd cc
lost_by asked e entries false true is at others f = λ same.
    let time : e.point.time ≡ asked.time = cc (same) in
    absurd (cc (is, point_same e.point asked (eqb-true e.point.sno asked.sno at) time))
lost_by asked e entries false false is at others f = others f

lost : (asked : Point) (entries : List Entry) → updates_after asked entries ≡ None
    → time_of asked.sno entries ≢ Some asked.time
unfolding updates_after time_of
lost asked [] f = λ same. absurd (cc (same))
lost asked (e ∷ entries) f = lost_by asked e entries (is_point e.point asked) (nat_eq e.point.sno asked.sno) refl refl
    (λ g. lost asked entries g) f

-- ---- the status

last_sno : (first last : Point) (entries : List Entry) → AreHeld first last entries
    → last.sno + 1 ≡ first.sno + length entries
last_sno first last [] h = let some = h.some in absurd (omega arith)
last_sno first last (e ∷ entries) h =
    let here : (slice_index_or (e ∷ entries) (length (e ∷ entries) - 1) e).point.sno
    ≡ first.sno + (length (e ∷ entries) - 1) = h.serials (length (e ∷ entries) - 1) e (omega arith) in
    let sno : (slice_index_or (e ∷ entries) (length (e ∷ entries) - 1) e).point.sno ≡ last.sno =
    ap (λ (x : Point). x.sno) (h.last_is e) in
    omega arith

nil_by : (us : List Entry) → length us ≡ 0 → status.Nil ≡ status_of (Some us)
nil_by [] e = refl
nil_by (u ∷ us) e = absurd (omega arith)

ok_by : (us : List Entry) → length us ≢ 0 → status.Ok ≡ status_of (Some us)
ok_by [] e = absurd (e refl)
ok_by (u ∷ us) e = refl

held_by : (first last asked : Point) (entries : List Entry) (updates : Option (List Entry))
    → updates_after asked entries ≡ updates → AreHeld first last entries
    → Some asked.time ≡ time_of asked.sno entries → (answer : Status4)
    → ((us : List Entry) → asked.sno + 1 + length us ≡ first.sno + length entries → answer ≡ status_of (Some us))
    → answer ≡ status_of updates
held_by first last asked entries None is h at answer by = absurd (lost asked entries is (sym at))
held_by first last asked entries (Some us) is h at answer by =
    by us (found first.sno asked entries us (runs_by first.sno entries h.serials) is).count

-- the last point
pub is_nil : (first last asked : Point) (entries : List Entry) → AreHeld first last entries
    → Some asked.time ≡ time_of asked.sno entries → asked.sno ≡ last.sno
    → status.Nil ≡ status_of (updates_after asked entries)
is_nil first last asked entries h at same =
    let end = last_sno first last entries h in
    held_by first last asked entries (updates_after asked entries) refl h at status.Nil
    (λ us count. nil_by us (omega arith))

-- a point before it
pub is_ok : (first last asked : Point) (entries : List Entry) → AreHeld first last entries
    → Some asked.time ≡ time_of asked.sno entries → asked.sno ≢ last.sno
    → status.Ok ≡ status_of (updates_after asked entries)
is_ok first last asked entries h at other =
    let end = last_sno first last entries h in
    held_by first last asked entries (updates_after asked entries) refl h at status.Ok
    (λ us count. ok_by us (λ none. absurd (other (omega arith))))

lost_status : (first last asked : Point) (entries : List Entry) (updates : Option (List Entry))
    → updates_after asked entries ≡ updates → AreHeld first last entries
    → time_of asked.sno entries ≢ Some asked.time → status.Resync ≡ status_of updates
lost_status first last asked entries None is h other = refl
lost_status first last asked entries (Some us) is h other =
    absurd (other (found first.sno asked entries us (runs_by first.sno entries h.serials) is).time)

-- a point that no entry has
pub is_resync : (first last asked : Point) (entries : List Entry) → AreHeld first last entries
    → time_of asked.sno entries ≢ Some asked.time
    → status.Resync ≡ status_of (updates_after asked entries)
is_resync first last asked entries h other =
    lost_status first last asked entries (updates_after asked entries) refl h other
