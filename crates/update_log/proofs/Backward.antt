-- The entries that run on to the last of the slots.
use Rattle.std.proofs.Common.{◌≡◌, ℕ, zero, suc, ◌+◌, ◌-◌, ◌<◌, ◌≤◌, Bool, true, false, cond, ltb, List, [], ◌∷◌, ◌++◌}
use Rattle.std.proofs.Common.{length, get_or, Option, Some, None, refl, sym, ◌∙◌, ap, subst, arith, length-append}
use Rattle.std.specs.List.{All}
use Rattle.std.proofs.lemmas.Bool.{and_parts, eqb-true, leb-true, ltb-true}
use Rattle.std.proofs.lemmas.Option.{cond_some}
use Rattle.std.proofs.Math.Seq.{get_or-append_seam}
use Rattle.kdb_base.specs.declared.moments.Point.{Point}
use Rattle.kdb_base.specs.Moments.{micros}
use Rattle.princ_rows.specs.declared.entries.Logged.{Logged}
use Rattle.update_log.specs.Slots.{slot_of}
use Rattle.update_log.specs.Logs.{IsMarked, IsRun, ComesNext}
use Rattle.update_log.specs.Runs.{goes_before, if_before, before, back}
use Rattle.update_log.proofs.Firsts.{IsLast}
use Rattle.update_log.proofs.Journals.{all_more, one_only, one_run, run_more}

-- What is known of the entries that stand in the slots: each stands in its own.
pub record AreSlots (base : Point) (size : ℕ) (at : ℕ → Option Logged) : Type 0 where
  pub from_base : (k : ℕ) (l : Logged) → at k ≡ Some l → base.sno ≤ l.entry.point.sno
  pub here : (k : ℕ) (l : Logged) → at k ≡ Some l → slot_of base size l.entry.point.sno ≡ k
  pub marked : (k : ℕ) (l : Logged) → at k ≡ Some l → IsMarked base l

-- the entry is that of its slot
abbrev pub IsAt : Point → ℕ → (ℕ → Option Logged) → Logged → Type 0
IsAt base size at l = at (slot_of base size l.entry.point.sno) ≡ Some l

-- The entry comes directly before the other, and is that of its slot.
pub record IsBefore (base : Point) (size : ℕ) (at : ℕ → Option Logged) (l next : Logged) : Type 0 where
  pub past_base : base.sno < next.entry.point.sno
  pub serial : l.entry.point.sno + 1 ≡ next.entry.point.sno
  pub time : micros l.entry.point.time ≤ micros next.entry.point.time
  pub there : IsAt base size at l

if_some : (test : Bool) (o : Option Logged) (l : Logged) → cond test o None ≡ Some l → (test ≡ true) × (o ≡ Some l)
if_some true o l is = (refl, is)
if_some false o l is = absurd cc

if_before_some : (next : Logged) (o : Option Logged) (l : Logged) → if_before next o ≡ Some l
    → (o ≡ Some l) × (goes_before l next ≡ true)
if_before_some next None l is = absurd cc
if_before_some next (Some a) l is =
    let g = cond_some (goes_before a next) a l is in
    (ap Some g.1, subst (λ (x : Logged). goes_before x next ≡ true) g.1 g.0)

pub before_some : (base : Point) (size : ℕ) (at : ℕ → Option Logged) (next l : Logged)
    → before base size at next ≡ Some l → IsBefore base size at l next
unfolding before
before_some base size at next l is =
    let past = if_some (ltb base.sno next.entry.point.sno)
    (if_before next (at (slot_of base size (next.entry.point.sno - 1)))) l is in
    let found = if_before_some next (at (slot_of base size (next.entry.point.sno - 1))) l past.1 in
    let goes = and_parts _ _ found.1 in
    let serial : l.entry.point.sno + 1 ≡ next.entry.point.sno = eqb-true _ _ goes.0 in
    let here : next.entry.point.sno - 1 ≡ l.entry.point.sno = omega (arith, serial) in
    record {
      past_base = ltb-true _ _ past.0;
      serial = serial;
      time = leb-true _ _ goes.1;
      there = sym (ap (λ (n : ℕ). at (slot_of base size n)) here) ∙ found.0;
    }

-- What is known of the entries that run on to this one.
pub record RunsTo (base : Point) (size : ℕ) (at : ℕ → Option Logged) (entries : List Logged) (l : Logged) : Type 0 where
  pub first : ℕ
  pub some : 0 < length entries
  pub ends : first + length entries ≡ l.entry.point.sno + 1
  pub last : (d : Logged) → get_or entries (length entries - 1) d ≡ l
  pub run : IsRun entries first
  pub there : All (IsAt base size at) entries

one_alone : (base : Point) (size : ℕ) (at : ℕ → Option Logged) (l : Logged) → IsAt base size at l
    → RunsTo base size at (l ∷ []) l
one_alone base size at l there = record {
  first = l.entry.point.sno;
  some = omega arith;
  ends = omega arith;
  last = λ d. refl;
  run = one_run l;
  there = one_only (IsAt base size at) l there;
}

one_more : (base : Point) (size : ℕ) (at : ℕ → Option Logged) (entries : List Logged) (l next : Logged)
    → AreSlots base size at → RunsTo base size at entries l → IsBefore base size at l next → IsAt base size at next
    → RunsTo base size at (entries ++ next ∷ []) next
one_more base size at entries l next slots runs comes there =
    let some = runs.some in
    let long = length-append entries (next ∷ []) in
    let past = comes.past_base in
    let marked = slots.marked (slot_of base size next.entry.point.sno) next there in
    let after : ComesNext entries next = record {
      change = λ none. absurd (omega (arith, marked.alone none, past));
      serial = λ d. sym comes.serial ∙ ap (λ (x : Logged). x.entry.point.sno + 1) (sym (runs.last d));
      time = λ d. subst (λ (x : Logged). micros x.entry.point.time ≤ micros next.entry.point.time)
          (sym (runs.last d)) comes.time;
    } in
    record {
      first = runs.first;
      some = omega (arith, long);
      ends = omega (arith, long, runs.ends, comes.serial);
      last = λ d.
          let at_end : length (entries ++ next ∷ []) - 1 ≡ length entries = omega (arith, long) in
          ap (λ (i : ℕ). get_or (entries ++ next ∷ []) i d) at_end ∙ get_or-append_seam entries next [] d;
      run = run_more entries runs.first next runs.run some after;
      there = all_more (IsAt base size at) entries next runs.there there;
    }

step_back : (base : Point) (size : ℕ) (at : ℕ → Option Logged) (n : ℕ) (l : Logged) (o : Option Logged)
    → before base size at l ≡ o → AreSlots base size at → IsAt base size at l
    → RunsTo base size at (back base size at (suc n) (Some l)) l
unfolding back
step_back base size at zero l o is slots there = one_alone base size at l there
step_back base size at (suc n) l None is slots there =
    subst (λ (b : Option Logged). RunsTo base size at (back base size at (suc n) b ++ (l ∷ [])) l) (sym is)
    (one_alone base size at l there)
step_back base size at (suc n) l (Some a) is slots there =
    let comes = before_some base size at l a is in
    subst (λ (b : Option Logged). RunsTo base size at (back base size at (suc n) b ++ (l ∷ [])) l) (sym is)
    (one_more base size at (back base size at (suc n) (Some a)) a l slots
    (step_back base size at n a (before base size at a) refl slots comes.there) comes there)

pub runs_back : (base : Point) (size : ℕ) (at : ℕ → Option Logged) (n : ℕ) (l : Logged) → AreSlots base size at
    → IsAt base size at l → RunsTo base size at (back base size at (suc n) (Some l)) l
runs_back base size at n l slots there = step_back base size at n l (before base size at l) refl slots there

-- it has at most so many
pub back_few : (base : Point) (size : ℕ) (at : ℕ → Option Logged) (n : ℕ) (o : Option Logged)
    → length (back base size at n o) ≤ n
unfolding back
back_few base size at zero o = omega arith
back_few base size at (suc n) None = omega arith
back_few base size at (suc n) (Some l) =
    let few = back_few base size at n (before base size at l) in
    omega (arith, length-append (back base size at n (before base size at l)) (l ∷ []), few)

-- the last entry is that of its slot
pub last_at : (base : Point) (size : ℕ) (at : ℕ → Option Logged) (n : ℕ) (l : Logged) → AreSlots base size at
    → IsLast at n l → IsAt base size at l
last_at base size at n l slots last = ap at (slots.here last.slot l last.here) ∙ last.here
