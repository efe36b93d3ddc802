-- What a log holds is what its bytes are read as.
use Rattle.std.proofs.Common.{◌≡◌, ◌≢◌, ℕ, zero, suc, ◌+◌, ◌-◌, ◌<◌, ◌≤◌, ◌⊎◌, inl, inr, ⊎_elim, true}
use Rattle.std.proofs.Common.{false, ltb, List, [], ◌∷◌, ◌++◌, length, get_or, take, drop, Option}
use Rattle.std.proofs.Common.{Some, None, refl, sym, ◌∙◌, ap, subst, arith, take-suc, take_all}
use Rattle.std.specs.Prelude.{Ok}
use Rattle.std.specs.List.{All}
use Rattle.std.proofs.lemmas.Bool.{cases_eq, cases_lt, cond-true, cond-false, and_from}
use Rattle.std.proofs.lemmas.Bool.{and_left, eq-eqb, ne_eqb, le-leb, lt-leb, lt-ltb, le-ltb}
use Rattle.kdb_base.specs.declared.moments.Point.{Point}
use Rattle.kdb_base.specs.Moments.{micros}
use Rattle.princ_rows.specs.declared.entries.Logged.{Logged}
use Rattle.update_log.specs.Slots.{slot_of, slot_bytes}
use Rattle.update_log.specs.Logs.{IsRun, IsLog, HoldsIn, newest, marker_of}
use Rattle.update_log.specs.Runs.{stands_in, goes_before, if_before, before, back, is_left, slot_in, entry_in}
use Rattle.update_log.specs.Runs.{is_wrong, if_whole, run_in, if_right, last_upto, first_of, log_in}
use Rattle.update_log.proofs.Rounds.{slot_low}
use Rattle.update_log.proofs.Firsts.{Below, first_none, last_found}
use Rattle.update_log.proofs.Entries.{slot_there, slot_closed, entry_there, right_there}

-- ---- a run that stands in the slots

-- The entries stand in their slots, and in no other slot stands one.
pub record Stand (base : Point) (size : ℕ) (at : ℕ → Option Logged) (entries : List Logged) (first : ℕ) : Type 0 where
  pub some : 0 < length entries
  pub few : length entries ≤ size + 1
  pub from_base : base.sno ≤ first
  pub run : IsRun entries first
  pub there : (i : ℕ) (d : Logged) → i < length entries
      → at (slot_of base size (get_or entries i d).entry.point.sno) ≡ Some (get_or entries i d)
  pub only : (k : ℕ) (d : Logged) → k ≤ size
      → (at k ≡ None) ⊎ ((i : ℕ) × (i < length entries) × (at k ≡ Some (get_or entries i d)))

goes : (l next : Logged) → l.entry.point.sno + 1 ≡ next.entry.point.sno
    → micros l.entry.point.time ≤ micros next.entry.point.time → if_before next (Some l) ≡ Some l
goes l next serial time =
    cond-true (goes_before l next) (Some l) None (and_from _ _ (eq-eqb _ _ serial) (le-leb _ _ time))

pub goes_not : (next : Logged) (o : Option Logged)
    → ((l : Logged) → o ≡ Some l → l.entry.point.sno + 1 ≢ next.entry.point.sno) → if_before next o ≡ None
goes_not next None other = refl
goes_not next (Some l) other = cond-false (goes_before l next) (Some l) None (and_left _ _ (ne_eqb _ _ (other l refl)))

before_is : (base : Point) (size : ℕ) (at : ℕ → Option Logged) (entries : List Logged) (first : ℕ)
    → Stand base size at entries first → (j : ℕ) (d : Logged) → j + 1 < length entries
    → before base size at (get_or entries (j + 1) d) ≡ Some (get_or entries j d)
unfolding before
before_is base size at entries first stand j d lt =
    let l = get_or entries j d in
    let next = get_or entries (j + 1) d in
    let here : l.entry.point.sno ≡ first + j = stand.run.serials j d (omega (arith, lt)) in
    let there : next.entry.point.sno ≡ first + (j + 1) = stand.run.serials (j + 1) d lt in
    let from = stand.from_base in
    let slot : next.entry.point.sno - 1 ≡ l.entry.point.sno = omega (arith, here, there) in
    cond-true (ltb base.sno next.entry.point.sno) (if_before next (at (slot_of base size (next.entry.point.sno - 1))))
    None (lt-ltb _ _ (omega (arith, there, from)))
    ∙ ap (λ (n : ℕ). if_before next (at (slot_of base size n))) slot
    ∙ ap (if_before next) (stand.there j d (omega (arith, lt)))
    ∙ goes l next (omega (arith, here, there)) (stand.run.times j d lt)

nothing_before : (base : Point) (size : ℕ) (at : ℕ → Option Logged) (entries : List Logged) (first : ℕ)
    → Stand base size at entries first → (d : Logged) → before base size at (get_or entries 0 d) ≡ None
unfolding before
nothing_before base size at entries first stand d =
    let next = get_or entries 0 d in
    let serial : next.entry.point.sno ≡ first + 0 = stand.run.serials 0 d stand.some in
    let k = slot_of base size (next.entry.point.sno - 1) in
    ⊎_elim
    (λ lt.
    cond-true (ltb base.sno next.entry.point.sno) (if_before next (at k)) None (lt-ltb _ _ lt)
    ∙ goes_not next (at k) (λ l is near. ⊎_elim
    (λ none. let no_entry : None ≡ Some l = sym none ∙ is in absurd cc)
    (λ found.
    let same : l ≡ get_or entries found.0 d =
    Rattle.std.proofs.lemmas.Option.same_Some l (get_or entries found.0 d) (sym is ∙ found.2) in
    absurd
    (omega (arith, ap (λ (e : Logged). e.entry.point.sno) same, stand.run.serials found.0 d found.1, near, serial)))
    (stand.only k d (slot_low base size (next.entry.point.sno - 1)))))
    (λ ge. cond-false (ltb base.sno next.entry.point.sno) (if_before next (at k)) None (le-ltb _ _ ge))
    (cases_lt base.sno next.entry.point.sno)

pub back_none : (base : Point) (size : ℕ) (at : ℕ → Option Logged) (n : ℕ) → back base size at n None ≡ []
unfolding back
back_none base size at zero = refl
back_none base size at (suc n) = refl

back_is : (base : Point) (size : ℕ) (at : ℕ → Option Logged) (entries : List Logged) (first : ℕ)
    → Stand base size at entries first → (i n : ℕ) (d : Logged) → i < length entries → i < n
    → back base size at n (Some (get_or entries i d)) ≡ take (suc i) entries
unfolding back
back_is base size at entries first stand i zero d lt few = absurd (omega (arith, few))
back_is base size at entries first stand zero (suc n) d lt few =
    ap (λ (o : Option Logged). back base size at n o ++ (get_or entries 0 d ∷ []))
    (nothing_before base size at entries first stand d)
    ∙ ap (λ (l : List Logged). l ++ (get_or entries 0 d ∷ [])) (back_none base size at n)
    ∙ sym (take-suc entries 0 d lt)
back_is base size at entries first stand (suc j) (suc n) d lt few =
    let next = get_or entries (suc j) d in
    let on : j + 1 ≡ suc j = omega arith in
    let step : before base size at next ≡ Some (get_or entries j d) =
    ap (λ (k : ℕ). before base size at (get_or entries k d)) (sym on)
    ∙ before_is base size at entries first stand j d (omega (arith, lt)) in
    ap (λ (o : Option Logged). back base size at n o ++ (next ∷ [])) step
    ∙ ap (λ (l : List Logged). l ++ (next ∷ []))
    (back_is base size at entries first stand j n d (omega (arith, lt)) (omega (arith, few)))
    ∙ sym (take-suc entries (suc j) d lt)

-- the whole run
whole_run : (base : Point) (size : ℕ) (at : ℕ → Option Logged) (entries : List Logged) (first : ℕ)
    → Stand base size at entries first → (d : Logged)
    → back base size at (size + 1) (Some (get_or entries (length entries - 1) d)) ≡ entries
whole_run base size at entries first stand d =
    let some = stand.some in
    let few = stand.few in
    back_is base size at entries first stand (length entries - 1) (size + 1) d (omega (arith, some))
    (omega (arith, some, few))
    ∙ take_all (suc (length entries - 1)) entries (omega (arith, some))

below_last : (base : Point) (size : ℕ) (at : ℕ → Option Logged) (entries : List Logged) (first : ℕ)
    → Stand base size at entries first → (d : Logged) (o : Option Logged)
    → (o ≡ None) ⊎ ((i : ℕ) × (i < length entries) × (o ≡ Some (get_or entries i d)))
    → Below (get_or entries (length entries - 1) d) o
below_last base size at entries first stand d o (inl none) =
    subst (Below (get_or entries (length entries - 1) d)) (sym none) tt
below_last base size at entries first stand d o (inr found) =
    let i = found.0 in
    let some = stand.some in
    let end : (get_or entries (length entries - 1) d).entry.point.sno ≡ first + (length entries - 1) =
    stand.run.serials (length entries - 1) d (omega (arith, some)) in
    subst (Below (get_or entries (length entries - 1) d)) (sym found.2)
    (⊎_elim
    (λ lt. inl (omega (arith, stand.run.serials i d found.1, end, lt)))
    (λ ge. let at_end : i ≡ length entries - 1 =
    omega (arith, ge, found.1) in inr (ap (λ (j : ℕ). get_or entries j d) at_end))
    (cases_lt i (length entries - 1)))

last_stands : (base : Point) (size : ℕ) (at : ℕ → Option Logged) (entries : List Logged) (first : ℕ)
    → Stand base size at entries first → (d : Logged)
    → last_upto at (size + 1) ≡ Some (get_or entries (length entries - 1) d)
last_stands base size at entries first stand d =
    let some = stand.some in
    let last = get_or entries (length entries - 1) d in
    let low = slot_low base size last.entry.point.sno in
    last_found at last (size + 1) (slot_of base size last.entry.point.sno) (omega (arith, low))
    (stand.there (length entries - 1) d (omega (arith, some)))
    (λ k lt. below_last base size at entries first stand d (at k) (stand.only k d (omega (arith, lt))))

left_not : (base : Point) (size : ℕ) (at : ℕ → Option Logged) (entries : List Logged) (first : ℕ)
    → Stand base size at entries first → (d : Logged) (last : ℕ) (o : Option Logged)
    → last ≡ first + (length entries - 1)
    → (o ≡ None) ⊎ ((i : ℕ) × (i < length entries) × (o ≡ Some (get_or entries i d)))
    → is_left last (length entries) o ≡ false
left_not base size at entries first stand d last o end (inl none) = ap (is_left last (length entries)) none
left_not base size at entries first stand d last o end (inr found) =
    let some = stand.some in
    ap (is_left last (length entries)) found.2
    ∙ lt-leb _ _ (omega (arith, end, stand.run.serials found.0 d found.1, some))

older_dropped : (size : ℕ) (older held : List Logged) → length held ≤ size → length older ≤ 1
    → (0 < length older → length held ≡ size) → newest size (older ++ held) ≡ held
older_dropped size [] held few one full = let none : length held - size ≡ 0 =
    omega (arith, few) in ap (λ (n : ℕ). drop n held) none
older_dropped size (e ∷ []) held few one full =
    let all = full (omega arith) in
    let n : length (e ∷ held) - size ≡ 1 = omega (arith, all) in
    ap (λ (n : ℕ). drop n (e ∷ held)) n
older_dropped size (e ∷ (f ∷ more)) held few one full = absurd (omega (arith, one))

pub stand_read : (base : Point) (size block : ℕ) (at : ℕ → Option Logged) (older held : List Logged) (first : ℕ)
    → Stand base size at (older ++ held) first → length held ≤ size → length older ≤ 1
    → (0 < length older → length held ≡ size)
    → run_in base size block at (last_upto at (size + 1)) ≡ Ok held
unfolding run_in
stand_read base size block at older held first stand few one full =
    let d = marker_of base in
    let entries = older ++ held in
    let last = get_or entries (length entries - 1) d in
    let some = stand.some in
    let end : last.entry.point.sno ≡ first + (length entries - 1) =
    stand.run.serials (length entries - 1) d (omega (arith, some)) in
    let ends : List Logged → Rattle.std.specs.Prelude.Result (List Logged) ℕ =
    λ run. if_whole size block run (first_of (λ k. is_left last.entry.point.sno (length run) (at k)) 0 (size + 1)) in
    let none : first_of (λ k. is_left last.entry.point.sno (length entries) (at k)) 0 (size + 1) ≡ None =
    first_none (λ k. is_left last.entry.point.sno (length entries) (at k)) 0 (size + 1) (λ k ge lt.
    left_not base size at entries first stand d last.entry.point.sno (at k) end (stand.only k d (omega (arith, lt)))) in
    ap (run_in base size block at) (last_stands base size at entries first stand d)
    ∙ ap ends (whole_run base size at entries first stand d)
    ∙ ap (if_whole size block entries) none
    ∙ ap Ok (older_dropped size older held few one full)

-- ---- the slots of a file

-- an entry whose slot this is, or none
find_slot : (f : Logged → ℕ) (k : ℕ) (entries : List Logged)
    → All (λ e. f e ≢ k) entries ⊎ ((i : ℕ) × (i < length entries) × ((d : Logged) → f (get_or entries i d) ≡ k))
find_slot f k [] = inl (λ i d lt. absurd (omega (arith, lt)))
find_slot f k (e ∷ entries) = ⊎_elim
    (λ same. inr (0, omega arith, λ d. same))
    (λ other. ⊎_elim
    (λ none. inl (find_none f k e entries other none))
    (λ found. inr (suc found.0, (let lt = found.1 in omega (arith, lt)), λ d. found.2 d))
    (find_slot f k entries))
    (cases_eq (f e) k)
  where
    find_none : (f : Logged → ℕ) (k : ℕ) (e : Logged) (entries : List Logged) → f e ≢ k → All (λ e. f e ≢ k) entries
        → All (λ e. f e ≢ k) (e ∷ entries)
    find_none f k e entries other none zero d lt = other
    find_none f k e entries other none (suc i) d lt = none i d (omega (arith, lt))

-- What stands in a slot of a log that has these entries.
slot_is : (format : ℕ) (base : Point) (size block : ℕ) (entries : List Logged) (file : List ℕ)
    → (log : IsLog base size block entries file) → All (λ l. stands_in format l ≡ true) entries → (i : ℕ) (d : Logged)
    → i < length entries
    → slot_in format base size block (slot_of base size (get_or entries i d).entry.point.sno)
    (slot_bytes block (slot_of base size (get_or entries i d).entry.point.sno) file) ≡ Some (Some (get_or entries i d))
slot_is format base size block entries file log takes i d lt =
    let from = log.from_base in
    slot_there (log.open_slots i d lt)
    (record {
      from_base = omega (arith, from, log.run.serials i d lt);
      here = refl;
      marked = log.marked i d lt;
      takes = takes i d lt;
    })

slot_none : (format : ℕ) (base : Point) (size block : ℕ) (entries : List Logged) (file : List ℕ)
    → (log : IsLog base size block entries file) → (k : ℕ) → k ≤ size
    → All (λ e. slot_of base size e.entry.point.sno ≢ k) entries
    → slot_in format base size block k (slot_bytes block k file) ≡ Some None
slot_none format base size block entries file log k le none =
    slot_closed format base size block k (slot_bytes block k file) (log.others k le none)

-- each slot has one of the entries, or none
slot_one : (format : ℕ) (base : Point) (size block : ℕ) (entries : List Logged) (file : List ℕ)
    → (log : IsLog base size block entries file) → All (λ l. stands_in format l ≡ true) entries
    → (k : ℕ) (d : Logged) → k ≤ size
    → (slot_in format base size block k (slot_bytes block k file) ≡ Some None) ⊎ ((i : ℕ) × (i < length entries)
    × (slot_in format base size block k (slot_bytes block k file) ≡ Some (Some (get_or entries i d))))
slot_one format base size block entries file log takes k d le = ⊎_elim
    (λ none. inl (slot_none format base size block entries file log k le none))
    (λ found. inr (
      found.0,
      found.1,
      subst (λ (j : ℕ).
          slot_in format base size block j (slot_bytes block j file) ≡ Some (Some (get_or entries found.0 d)))
          (found.2 d) (slot_is format base size block entries file log takes found.0 d found.1),
    ))
    (find_slot (λ (e : Logged). slot_of base size e.entry.point.sno) k entries)

right_slot : (format : ℕ) (base : Point) (size block : ℕ) (entries : List Logged) (file : List ℕ)
    → (log : IsLog base size block entries file) → All (λ l. stands_in format l ≡ true) entries → (k : ℕ) → k ≤ size
    → is_wrong format base size block file k ≡ false
right_slot format base size block entries file log takes k le = ⊎_elim
    (λ none. right_there format base size block k file None none)
    (λ found. right_there format base size block k file (Some (get_or entries found.0 (marker_of base))) found.2)
    (slot_one format base size block entries file log takes k (marker_of base) le)

entries_stand : (format : ℕ) (base : Point) (size block : ℕ) (entries : List Logged) (file : List ℕ)
    → (log : IsLog base size block entries file) → All (λ l. stands_in format l ≡ true) entries
    → Stand base size (entry_in format base size block file) entries log.first
entries_stand format base size block entries file log takes = record {
  some = log.some;
  few = log.few;
  from_base = log.from_base;
  run = log.run;
  there = λ i d lt. entry_there format base size block (slot_of base size (get_or entries i d).entry.point.sno) file
      (Some (get_or entries i d)) (slot_is format base size block entries file log takes i d lt);
  only = λ k d le. ⊎_elim
      (λ none. inl (entry_there format base size block k file None none))
      (λ found. inr (
        found.0,
        found.1,
        entry_there format base size block k file (Some (get_or entries found.0 d)) found.2,
      ))
      (slot_one format base size block entries file log takes k d le);
}

-- what a log holds is what its bytes are read as, where all its entries may stand in the format
pub reads_logs : (format : ℕ) (base : Point) (size block : ℕ) (held : List Logged) (file : List ℕ)
    → (holds : HoldsIn base size block held file) → All (λ l. stands_in format l ≡ true) (holds.older ++ held)
    → log_in format base size block file ≡ Ok held
unfolding log_in
reads_logs format base size block held file holds takes =
    let entries = holds.older ++ held in
    let at = entry_in format base size block file in
    let found = run_in base size block at (last_upto at (size + 1)) in
    let right : first_of (is_wrong format base size block file) 0 (size + 1) ≡ None =
    first_none (is_wrong format base size block file) 0 (size + 1)
    (λ k ge lt. right_slot format base size block entries file holds.is takes k (omega (arith, lt))) in
    ap (λ (o : Option ℕ). if_right block o found) right
    ∙ stand_read base size block at holds.older held holds.is.first
    (entries_stand format base size block entries file holds.is takes) holds.few holds.one holds.full
