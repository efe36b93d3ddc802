-- The steps of an index: a unit is taken from the free ones and given back, and a key is put and taken out.
use Rattle.std.proofs.Common.{◌≡◌, ◌≢◌, ℕ, zero, suc, ◌+◌, ◌<◌, ◌≤◌, max, Bool, true, false, cond, ◌&&◌, ltb}
use Rattle.std.proofs.Common.{leb, eqb, Vec, List, [], ◌∷◌, ◌++◌, length, get_or, slice_get, Option, Some, None}
use Rattle.std.proofs.Common.{Result, Ok, Err, refl, sym, ap, subst, ◌∙◌, arith, inl, inr, length-append}
use Rattle.std.specs.Prelude.{IfSome, IsOk, OnOk, is_some}
use Rattle.std.specs.declared.alloc.Global.{Global}
use Rattle.indexmap.specs.IndexMap.{IndexMap, Updates}
use Rattle.std.specs.declared.cmp.Ordering.{Ordering}
use Rattle.std.specs.declared.cmp.Reverse.{Reverse}
use Rattle.std.specs.BinaryHeap.{IsHeap, IsUpperBound}
use Rattle.std.specs.List.{IsDistinct, swap_remove, sum_by}
use Rattle.std.specs.List.Sorted.{IsPermutation}
use Rattle.std.specs.Str.{bytes_eq}
use mathlib.Core.Path.{fun_ext}
use Rattle.std.specs.Map.{keys_of, lookup}
use Rattle.std.specs.Ordering.{nat_cmp}
use Rattle.std.proofs.lemmas.Bool.{and_parts, cases_lt, eqb-true, eq-eqb, ltb-true, lt-ltb, leb-true, le-leb}
use Rattle.std.proofs.lemmas.List.Sorted.{sum_by_popped, sum_by-IsPermutation}
use Rattle.std.proofs.lemmas.List.Sorted.{length_permutation, IsPermutation-swap_remove}
use Rattle.std.proofs.lemmas.List.Sums.{sum_by-cons}
use Rattle.std.proofs.lemmas.List.{get_or_append_left}
use Rattle.std.proofs.lemmas.Map.Entries.{lookup_from_place}
use Rattle.std.proofs.lemmas.Map.Keys.{ge_from_not_lt}
use Rattle.std.proofs.lemmas.Option.{get_or_from_slice_get}
use Rattle.kdb_base.specs.Limits.{most_rows}
use Rattle.kdb_cells.specs.Sheets.{last_unit}
use Rattle.kdb_cells.specs.Leads.{IsLeastFree, Units, unless, freed, leading, more_led}
use Rattle.kdb_cells.specs.Indexes.{Entries, Heap, Index, unit_of, unit_given, units, one_at}
use Rattle.kdb_cells.specs.Indexes.{led, waiting, given, in_file, IsAtSpot, IsGiven, IsIndex}
use Rattle.kdb_cells.specs.declared.index.Placed.{Placed}
use Rattle.kdb_cells.specs.declared.index.Spot.{Spot}
use Rattle.kdb_cells.specs.declared.index.Spot.TheVariants.{Led, Taken, Next}
use Rattle.kdb_cells.proofs.Entries.{key_eq, key_equiv, one_same, place_led, led_place}
use Rattle.kdb_cells.proofs.Entries.{led_free, free_led, led_more, removed, unless_other}

abbrev by_falling : Reverse ℕ → Reverse ℕ → Ordering
by_falling x y = nat_cmp y.0 x.0

abbrev pub taken_unit : ℕ → Option Placed
taken_unit unit = Some (record { unit = unit; spot = Taken })

-- ---- the units of a file

pub in_file_from : (next i : ℕ) → in_file next i ≡ 1 → (1 ≤ i) × ((i < next) × (i ≤ last_unit))
in_file_from next i e = by (leb 1 i && (ltb i next && leb i last_unit)) refl e
  where
    by : (b : Bool) → (leb 1 i && (ltb i next && leb i last_unit)) ≡ b → ◌≡◌ {A = ℕ} (cond b 1 0) 1
        → (1 ≤ i) × ((i < next) × (i ≤ last_unit))
    by true t e =
        let first = and_parts (leb 1 i) (ltb i next && leb i last_unit) t in
        let rest = and_parts (ltb i next) (leb i last_unit) first.1 in
        (leb-true 1 i first.0, (ltb-true i next rest.0, leb-true i last_unit rest.1))
    by false t e = absurd (omega (arith, e))

pub in_file_is : (next i : ℕ) → 1 ≤ i → i < next → i ≤ last_unit → in_file next i ≡ 1
in_file_is next i first below last = rw (le-leb 1 i first, lt-ltb i next below, le-leb i last_unit last) refl

pub in_file_few : (next i : ℕ) → in_file next i ≤ 1
in_file_few next i = by (leb 1 i && (ltb i next && leb i last_unit))
  where
    by : (b : Bool) → cond {A = ℕ} b 1 0 ≤ 1
    by true = omega arith
    by false = omega arith

-- ---- the heap

pub waiting-cons : (i : ℕ) (r : Reverse ℕ) (heap : Heap) → waiting i (r ∷ heap) ≡ one_at i r.0 + waiting i heap
unfolding waiting
waiting-cons i r heap = sum_by-cons (λ (x : Reverse ℕ). one_at i x.0) r heap

pub waiting-nil : (i : ℕ) → waiting i [] ≡ 0
unfolding waiting
waiting-nil i = refl

pub waiting_same : (i : ℕ) (xs ys : Heap) → IsPermutation xs ys → waiting i xs ≡ waiting i ys
unfolding waiting
waiting_same i xs ys p = sym (sum_by-IsPermutation (λ (r : Reverse ℕ). one_at i r.0) xs ys p)

one_other : (i j : ℕ) → i < j → one_at i j ≡ 0
one_other i j lt = by (eqb i j) refl
  where
    by : (b : Bool) → eqb i j ≡ b → ◌≡◌ {A = ℕ} (cond b 1 0) 0
    by true e = absurd (omega (arith, lt, eqb-true i j e))
    by false e = refl

none_lower : (i : ℕ) (r : Reverse ℕ) (heap : Heap) → i < r.0 → IsUpperBound by_falling r heap → waiting i heap ≡ 0
none_lower i r [] lt bound = waiting-nil i
none_lower i r (x ∷ heap) lt bound =
    let le : r.0 ≤ x.0 = ge_from_not_lt x.0 r.0 bound.0 in
    omega (arith, waiting-cons i x heap, one_other i x.0 (omega (arith, lt, le)), none_lower i r heap lt bound.1)

-- ---- a unit is given back and taken

pub given_back : (entries : Entries) (next unit : ℕ) (r : Reverse ℕ) (old new : Heap) → r.0 ≡ unit
    → IsPermutation (r ∷ old) new → (IsHeap by_falling old → IsHeap by_falling new)
    → IsIndex entries old next (taken_unit unit) → IsIndex entries new next None
given_back entries next unit r old new same moved keeps x = record {
  each_once =
      λ i. omega (arith, x.each_once i, waiting_same i (r ∷ old) new moved, waiting-cons i r old, ap (one_at i) same);
  in_order = keeps x.in_order;
  begun = x.begun;
  few = x.few;
  all = omega (arith, x.all, length_permutation (r ∷ old) new moved);
  spot = tt;
}

pub taken_out : (entries : Entries) (next : ℕ) (r : Reverse ℕ) (old new : Heap) → IsPermutation old (r ∷ new)
    → (IsHeap by_falling old → IsHeap by_falling new × IsUpperBound by_falling r old)
    → IsIndex entries old next None → IsIndex entries new next (taken_unit r.0)
taken_out entries next r old new moved pops x = record {
  each_once = λ i. omega (arith, x.each_once i, waiting_same i old (r ∷ new) moved, waiting-cons i r new);
  in_order = (pops x.in_order).0;
  begun = x.begun;
  few = x.few;
  all = omega (arith, x.all, length_permutation old (r ∷ new) moved);
  spot = tt;
}

-- the unit that was taken is one of the file, and no key leads to it
pub taken_parts : (entries : Entries) (heap : Heap) (next unit : ℕ) → IsIndex entries heap next (taken_unit unit)
    → (led unit entries ≡ 0) × ((1 ≤ unit) × ((unit < next) × (unit ≤ last_unit)))
taken_parts entries heap next unit x =
    let once = x.each_once unit in
    let mine = one_same unit unit refl in
    let few = in_file_few next unit in
    let file = in_file_from next unit (omega (arith, once, mine, few)) in
    (omega (arith, once, mine, few), file)

-- a unit to which a key leads is one of the file
pub led_parts : (entries : Entries) (heap : Heap) (next unit : ℕ) (placed : Option Placed)
    → IsIndex entries heap next placed → 1 ≤ led unit entries
    → (led unit entries ≡ 1) × ((waiting unit heap + given unit placed ≡ 0) × ((1 ≤ unit) × (unit < next)))
led_parts entries heap next unit placed x le =
    let once = x.each_once unit in
    let few = in_file_few next unit in
    let file = in_file_from next unit (omega (arith, once, le, few)) in
    (omega (arith, once, le, few), (omega (arith, once, le, few), (file.0, file.1.0)))

-- no unit below is free, where none below waits in the heap
no_lower : (entries : Entries) (heap : Heap) (next i : ℕ) → IsDistinct key_eq (keys_of entries)
    → IsIndex entries heap next None → 1 ≤ i → i < next → i ≤ last_unit → waiting i heap ≡ 0
    → ((key : List ℕ) → unit_of entries key ≢ Some i) → ⊥
no_lower entries heap next i apart x first below last none free =
    omega (arith, x.each_once i, in_file_is next i first below last, none, free_led i entries apart free)

pub least_taken : (entries : Entries) (next : ℕ) (r : Reverse ℕ) (old new : Heap) → IsDistinct key_eq (keys_of entries)
    → IsPermutation old (r ∷ new) → (IsHeap by_falling old → IsHeap by_falling new × IsUpperBound by_falling r old)
    → IsIndex entries old next None → IsLeastFree r.0 (units (record { entries = entries; next = next; placed = None }))
least_taken entries next r old new apart moved pops x =
    let parts = taken_parts entries new next r.0 (taken_out entries next r old new moved pops x) in
    record {
      first = parts.1.0;
      free = led_free r.0 entries parts.0;
      least = λ i first below free. no_lower entries old next i apart x first (omega (arith, below, parts.1.1.0))
          (omega (arith, below, parts.1.1.1)) (none_lower i r old below (pops x.in_order).1) free;
    }

pub least_next : (entries : Entries) (next : ℕ) (heap : Heap) → IsDistinct key_eq (keys_of entries) → heap ≡ []
    → next ≤ last_unit → IsIndex entries heap next None
    → IsLeastFree next (units (record { entries = entries; next = next; placed = None }))
least_next entries next heap apart none short x =
    let empty : (i : ℕ) → waiting i heap ≡ 0 = λ i. ap (waiting i) none ∙ waiting-nil i in
    let past : in_file next next ≡ 0 = by in
    record {
      first = x.begun;
      free = led_free next entries (omega (arith, x.each_once next, past));
      least = λ i first below free.
          no_lower entries heap next i apart x first below (omega (arith, below, short)) (empty i) free;
    }
  where
    by : in_file next next ≡ 0
    by = elim (cases_lt 0 (in_file next next)) [
      | inl some ↦ let file =
          in_file_from next next (omega (arith, some, in_file_few next next)) in absurd (omega (arith, file.1.0))
      | inr none ↦ omega (arith, none)
    ]

-- ---- a key is taken out

pub own_unit : (entries : Entries) (at unit : ℕ) (key : Vec ℕ Global) → IsDistinct key_eq (keys_of entries)
    → slice_get entries at ≡ Some (key, unit) → lookup (key_eq key) entries ≡ Some unit
own_unit entries at unit key apart is = lookup_from_place key_equiv entries at key unit apart is

led_removed : (i at : ℕ) (old new : Entries) (e : Vec ℕ Global × ℕ) → at < length old → e ≡ get_or old at e
    → new ≡ swap_remove old at e → led i old ≡ one_at i e.1 + led i new
unfolding led
led_removed i at old new e lt here is =
    let moved = IsPermutation-swap_remove old at e lt here in
    let popped = sum_by_popped (λ (x : Vec ℕ Global × ℕ). one_at i x.1) e old (swap_remove old at e) moved in
    omega (arith, popped, ap (λ (xs : Entries). sum_by (λ (x : Vec ℕ Global × ℕ). one_at i x.1) xs) is)

-- what the entry at a spot is, and what its removal leaves
pub led_out : (old new : Entries) (heap : Heap) (next at unit : ℕ) (key : Vec ℕ Global)
    → IsIndex old heap next (Some (record { unit = unit; spot = Led at })) → slice_get old at ≡ Some (key, unit)
    → new ≡ swap_remove old at (key, unit) → length new + 1 ≡ length old
    → IsIndex new heap next (taken_unit unit)
led_out old new heap next at unit key x is out fewer =
    let e : Vec ℕ Global × ℕ = (key, unit) in
    let lt = x.spot.0 in
    let here : get_or old at e ≡ e = get_or_from_slice_get old at e e is in
    record {
      each_once = λ i. omega (arith, x.each_once i, led_removed i at old new e lt (sym here) out);
      in_order = x.in_order;
      begun = x.begun;
      few = omega (arith, x.few, fewer);
      all = omega (arith, x.all, fewer);
      spot = tt;
    }

-- no key leads to a unit that was taken, or to the one past the end
pub of_taken : (entries : Entries) (unit : ℕ) → led unit entries ≡ 0 → (key : List ℕ)
    → unit_of entries key ≡ unless unit (unit_of entries key)
of_taken entries unit none key = unless_other unit (unit_of entries key) (led_free unit entries none key)

pub past_end : (entries : Entries) (heap : Heap) (next unit : ℕ) (placed : Option Placed)
    → IsIndex entries heap next placed → next ≤ unit → led unit entries ≡ 0
past_end entries heap next unit placed x past =
    elim (cases_lt 0 (led unit entries)) [
      | inl some ↦ let parts =
          led_parts entries heap next unit placed x some in absurd (omega (arith, past, parts.1.1.1))
      | inr none ↦ omega (arith, none)
    ]

-- the unit past the end joins the file
pub joined : (entries : Entries) (heap : Heap) (next : ℕ)
    → next ≤ last_unit → IsIndex entries heap next (Some (record { unit = next; spot = Next }))
    → IsIndex entries heap (next + 1) (taken_unit next)
joined entries heap next short x = record {
  each_once = λ i. elim (cases_lt i next) [
    | inl below ↦ omega (arith, x.each_once i, one_other i next below, same_file i below)
    | inr from ↦ elim (cases_lt next i) [
      | inl past ↦ omega (
        arith,
        x.each_once i,
        one_past i past,
        beyond next i (omega (arith, past)),
        beyond (next + 1) i (omega (arith, past)),
      )
      | inr le ↦ here i (omega (arith, from, le))
    ]
  ];
  in_order = x.in_order;
  begun = omega arith;
  few = x.few;
  all = omega (arith, x.all, short);
  spot = tt;
}
  where
    one_past : (i : ℕ) → next < i → one_at i next ≡ 0
    one_past i lt = by (eqb i next) refl
      where
        by : (b : Bool) → eqb i next ≡ b → ◌≡◌ {A = ℕ} (cond b 1 0) 0
        by true e = absurd (omega (arith, lt, eqb-true i next e))
        by false e = refl

    beyond : (end i : ℕ) → end ≤ i → in_file end i ≡ 0
    beyond end i le = elim (cases_lt 0 (in_file end i)) [
      | inl some ↦ let file =
          in_file_from end i (omega (arith, some, in_file_few end i)) in absurd (omega (arith, le, file.1.0))
      | inr none ↦ omega (arith, none)
    ]

    same_file : (i : ℕ) → i < next → in_file (next + 1) i ≡ in_file next i
    same_file i lt = rw (lt-ltb i next lt, lt-ltb i (next + 1) (omega (arith, lt))) refl

    here : (i : ℕ) → i ≡ next → led i entries + (waiting i heap + one_at i next) ≡ in_file (next + 1) i
    here i e = omega (
      arith,
      x.each_once i,
      one_same i next e,
      beyond next i (omega (arith, e)),
      in_file_is (next + 1) i (omega (arith, e, x.begun)) (omega (arith, e)) (omega (arith, e, short)),
    )

-- ---- a key is put

pub attached : (old new : Entries) (heap : Heap) (next unit : ℕ) (key : Vec ℕ Global) → new ≡ old ++ (key, unit) ∷ []
    → length old < most_rows → IsIndex old heap next (taken_unit unit) → IsIndex new heap next None
attached old new heap next unit key is few x = record {
  each_once = λ i. omega (arith, x.each_once i, more i);
  in_order = x.in_order;
  begun = x.begun;
  few = omega (arith, few, long);
  all = omega (arith, x.all, long);
  spot = tt;
}
  where
    e : Vec ℕ Global × ℕ
    e = (key, unit)

    long : length new ≡ length old + 1
    long = ap length is ∙ length-append old (e ∷ [])

    more : (i : ℕ) → led i new ≡ led i old + one_at i unit
    more i = ap (led i) is ∙ led_more i old e

-- what a clause on Ok says where the result is known to be one
pub from_ok : {T E P : Type 0} (r : Result T E) → IsOk r → OnOk r P → P
from_ok (Ok x) ok p = p
from_ok (Err e) ok p = absurd cc

within_some : {X : Type 0} (xs : List X) (i : ℕ) → i < length xs → slice_get xs i ≡ None → ⊥
within_some [] i lt e = absurd (omega (arith, lt))
within_some (x ∷ xs) zero lt e = absurd cc
within_some (x ∷ xs) (suc i) lt e = within_some xs i (omega (arith, lt)) e

-- ---- the key that leads to the given unit is taken out

-- what it leaves
pub record Detached (old new : Entries) (heap : Heap) (next unit : ℕ) : Type 0 where
  pub index : IsIndex new heap next (taken_unit unit)
  pub of : (key : List ℕ) → unit_of new key ≡ unless unit (unit_of old key)
  pub fewer : length new + 1 ≡ length old
  pub below : unit < next
  pub was_led : 1 ≤ led unit old

pub key_out : {S : Type 0} (old new : IndexMap (Vec ℕ Global) ℕ S) (heap : Heap) (next at : ℕ) (placed : Placed)
    (r : Option (Vec ℕ Global × ℕ)) → placed.spot ≡ Led at → IsIndex old.entries heap next (Some placed)
    → IsDistinct key_eq (keys_of old.entries) → r ≡ slice_get old.entries at
    → IfSome r (λ p. new.entries ≡ swap_remove old.entries at p) → IfSome r (λ p. Updates key_eq old new p.0 None)
    → length new.entries + cond (is_some r) 1 0 ≡ length old.entries
    → Detached old.entries new.entries heap next placed.unit
key_out old new heap next at placed None is x apart found out updates fewer =
    let y = subst (λ (s : Spot). IsIndex old.entries heap next (Some (record { unit = placed.unit; spot = s }))) is x in
    absurd (within_some old.entries at y.spot.0 (sym found))
key_out old new heap next at placed (Some p) is x apart found out updates fewer =
    let unit = placed.unit in
    let y = subst (λ (s : Spot). IsIndex old.entries heap next (Some (record { unit = unit; spot = s }))) is x in
    let mine : p.1 ≡ unit =
    ap (λ (e : Vec ℕ Global × ℕ). e.1) (sym (get_or_from_slice_get old.entries at p p (sym found))) ∙ y.spot.1 p in
    let here : slice_get old.entries at ≡ Some (p.0, unit) =
    sym found ∙ ap (λ (j : ℕ). let e : Vec ℕ Global × ℕ = (p.0, j) in Some e) mine in
    let gone : new.entries ≡ swap_remove old.entries at (p.0, unit) =
    out ∙ ap (λ (j : ℕ). let e : Vec ℕ Global × ℕ = (p.0, j) in swap_remove old.entries at e) mine in
    let index = led_out old.entries new.entries heap next at unit p.0 y here gone fewer in
    let parts = taken_parts new.entries heap next unit index in
    record {
      index = index;
      of = removed unit p.0 old.entries new.entries (own_unit old.entries at unit p.0 apart here) updates.1
          updates.3 parts.0;
      fewer = fewer;
      below = parts.1.1.0;
      was_led = led_place unit at p.0 old.entries here;
    }

-- ---- the whole index

led_none : (i : ℕ) (entries : Entries) → entries ≡ [] → 1 ≤ led i entries → ⊥
led_none i [] none some = let at = place_led i [] some in absurd cc
led_none i (e ∷ entries) none some = absurd cc

pub begun_index : (entries : Entries) (heap : Heap) → entries ≡ [] → heap ≡ [] → IsHeap by_falling heap
    → IsIndex entries heap 1 None
begun_index entries heap none free order = record {
  each_once = λ i. omega (arith, no_led i, ap (waiting i) free, waiting-nil i, no_unit i);
  in_order = order;
  begun = omega arith;
  few = omega (arith, ap length none);
  all = omega (arith, ap length none, ap length free);
  spot = tt;
}
  where
    no_led : (i : ℕ) → led i entries ≡ 0
    no_led i = elim (cases_lt 0 (led i entries)) [
      | inl some ↦ absurd (led_none i entries none some)
      | inr zero_led ↦ omega (arith, zero_led)
    ]

    no_unit : (i : ℕ) → in_file 1 i ≡ 0
    no_unit i = elim (cases_lt 0 (in_file 1 i)) [
      | inl some ↦ let file =
          in_file_from 1 i (omega (arith, some, in_file_few 1 i)) in absurd (omega (arith, file.0, file.1.0))
      | inr none_in ↦ omega (arith, none_in)
    ]

pub same_least : (unit : ℕ) (a b : Index) → a.entries ≡ b.entries → IsLeastFree unit (units a)
    → IsLeastFree unit (units b)
same_least unit a b e l =
    let made : Entries → Index = λ es. record { entries = es; next = b.next; placed = b.placed } in
    let here : IsLeastFree unit (units (made a.entries)) = record { first = l.first; free = l.free; least = l.least } in
    subst (λ (es : Entries). IsLeastFree unit (units (made es))) e here

-- the units after a change, by what each key leads to
pub freed_units : (old new : Index) (unit : ℕ)
    → ((key : List ℕ) → unit_of new.entries key ≡ unless unit (unit_of old.entries key))
    → new.next ≡ max old.next (unit + 1) → new.placed ≡ None → units new ≡ freed unit (units old)
unfolding freed
freed_units old new unit of next placed =
    let made : (List ℕ → Option ℕ) → ℕ → Option ℕ → Units = λ f n p. record { of = f; next = n; placed = p } in
    let same : unit_of new.entries ≡ (λ (key : List ℕ). unless unit (unit_of old.entries key)) = fun_ext of in
    ap (λ (f : List ℕ → Option ℕ). made f new.next new.placed) same
    ∙ ap (λ (n : ℕ). made (λ (key : List ℕ). unless unit (unit_of old.entries key)) n new.placed) next
    ∙ ap (λ (p : Option ℕ). made (λ (key : List ℕ). unless unit (unit_of old.entries key)) (max old.next (unit + 1)) p)
    placed

pub leading_units : (old new : Index) (mid : Entries) (unit : ℕ) (key : List ℕ)
    → ((k : List ℕ) → unit_of mid k ≡ unless unit (unit_of old.entries k))
    → ((k : List ℕ) → unit_of new.entries k ≡ cond (bytes_eq key k) (Some unit) (unit_of mid k))
    → new.next ≡ max old.next (unit + 1) → new.placed ≡ None → units new ≡ leading key unit (units old)
unfolding leading
leading_units old new mid unit key out of next placed =
    let made : (List ℕ → Option ℕ) → ℕ → Option ℕ → Units = λ f n p. record { of = f; next = n; placed = p } in
    let all : List ℕ → Option ℕ = λ k. cond (bytes_eq key k) (Some unit) (unless unit (unit_of old.entries k)) in
    let same : unit_of new.entries ≡ all =
    fun_ext (λ k. of k ∙ ap (λ (o : Option ℕ). cond (bytes_eq key k) (Some unit) o) (out k)) in
    ap (λ (f : List ℕ → Option ℕ). made f new.next new.placed) same
    ∙ ap (λ (n : ℕ). made all n new.placed) next
    ∙ ap (λ (p : Option ℕ). made all (max old.next (unit + 1)) p) placed

-- the key that is put leads nowhere once no key leads to the unit
pub leads_nowhere : (unit : ℕ) (o : Option ℕ) → ((i : ℕ) → o ≡ Some i → i ≡ unit) → unless unit o ≡ None
leads_nowhere unit None alone = refl
leads_nowhere unit (Some i) alone = ap (λ (b : Bool). cond b None (Some i)) (eq-eqb i unit (alone i refl))

-- ---- the unit past the end joins the file

-- in which file a number is, where the end moves by one
file_grows : (next i : ℕ) → 1 ≤ next → next ≤ last_unit → in_file (next + 1) i ≡ in_file next i + one_at i next
file_grows next i begun near = elim (cases_lt i next) [
  | inl below ↦ omega (arith, one_other i next below, same i below)
  | inr from ↦ elim (cases_lt next i) [
    | inl past ↦
        omega (arith, one_past i past, beyond next i (omega (arith, past)), beyond (next + 1) i (omega (arith, past)))
    | inr le ↦ here i (omega (arith, from, le))
  ]
]
  where
    one_past : (i : ℕ) → next < i → one_at i next ≡ 0
    one_past i lt = by (eqb i next) refl
      where
        by : (b : Bool) → eqb i next ≡ b → ◌≡◌ {A = ℕ} (cond b 1 0) 0
        by true e = absurd (omega (arith, lt, eqb-true i next e))
        by false e = refl

    beyond : (end i : ℕ) → end ≤ i → in_file end i ≡ 0
    beyond end i le = elim (cases_lt 0 (in_file end i)) [
      | inl some ↦ let file =
          in_file_from end i (omega (arith, some, in_file_few end i)) in absurd (omega (arith, le, file.1.0))
      | inr none ↦ omega (arith, none)
    ]

    same : (i : ℕ) → i < next → in_file (next + 1) i ≡ in_file next i
    same i lt = rw (lt-ltb i next lt, lt-ltb i (next + 1) (omega (arith, lt))) refl

    here : (i : ℕ) → i ≡ next → in_file (next + 1) i ≡ in_file next i + one_at i next
    here i e = omega (
      arith,
      one_same i next e,
      beyond next i (omega (arith, e)),
      in_file_is (next + 1) i (omega (arith, e, begun)) (omega (arith, e)) (omega (arith, e, near)),
    )

-- past the last number that a row may have, no unit is kept
file_stays : (next i : ℕ) → last_unit < next → in_file (next + 1) i ≡ in_file next i
file_stays next i far = elim (cases_lt i next) [
  | inl below ↦ rw (lt-ltb i next below, lt-ltb i (next + 1) (omega (arith, below))) refl
  | inr from ↦ omega (arith, none next i (omega (arith, far, from)), none (next + 1) i (omega (arith, far, from)))
]
  where
    none : (end i : ℕ) → last_unit < i → in_file end i ≡ 0
    none end i lt = elim (cases_lt 0 (in_file end i)) [
      | inl some ↦ let file =
          in_file_from end i (omega (arith, some, in_file_few end i)) in absurd (omega (arith, lt, file.1.1))
      | inr zero_is ↦ omega (arith, zero_is)
    ]

-- the unit that was given is another one, and stays where it was
stays_at : (old new : Entries) (next unit : ℕ) (spot : Spot)
    → ((at : ℕ) (d : Vec ℕ Global × ℕ) → at < length old → get_or new at d ≡ get_or old at d) → length old ≤ length new
    → unit < next → IsAtSpot old next unit spot → IsAtSpot new (next + 1) unit spot
stays_at old new next unit (Led at) same le other given = let lt =
    given.0 in (omega (arith, lt, le), λ d. ap (λ (e : Vec ℕ Global × ℕ). e.1) (same at d lt) ∙ given.1 d)
stays_at old new next unit Taken same le other given = tt
stays_at old new next unit Next same le other given = absurd (omega (arith, other, given))

given_stays : (old new : Entries) (next : ℕ) (placed : Option Placed)
    → ((at : ℕ) (d : Vec ℕ Global × ℕ) → at < length old → get_or new at d ≡ get_or old at d) → length old ≤ length new
    → ((unit : ℕ) → unit_given placed ≡ Some unit → unit < next)
    → IsGiven old next placed → IsGiven new (next + 1) placed
given_stays old new next None same le other given = tt
given_stays old new next (Some p) same le other given =
    stays_at old new next p.unit p.spot same le (other p.unit refl) given

pub extended : (old new : Entries) (heap : Heap) (next : ℕ) (placed : Option Placed) (key : Vec ℕ Global)
    → new ≡ old ++ (key, next) ∷ [] → length old < most_rows → next ≤ last_unit
    → ((unit : ℕ) → unit_given placed ≡ Some unit → unit < next)
    → IsIndex old heap next placed → IsIndex new heap (next + 1) placed
extended old new heap next placed key is few near other x = record {
  each_once = λ i. omega (arith, x.each_once i, more i, file_grows next i x.begun near);
  in_order = x.in_order;
  begun = omega (arith, x.begun);
  few = omega (arith, few, long);
  all = omega (arith, x.all, long, near);
  spot = given_stays old new next placed (λ at d lt. ap (λ (es : Entries). get_or es at d) is
      ∙ get_or_append_left old (e ∷ []) d at lt) (omega (arith, long)) other x.spot;
}
  where
    e : Vec ℕ Global × ℕ
    e = (key, next)

    long : length new ≡ length old + 1
    long = ap length is ∙ length-append old (e ∷ [])

    more : (i : ℕ) → led i new ≡ led i old + one_at i next
    more i = ap (led i) is ∙ led_more i old e

pub extended_free : (entries : Entries) (old new : Heap) (next : ℕ) (placed : Option Placed) (r : Reverse ℕ)
    → r.0 ≡ next → next ≤ last_unit → ((unit : ℕ) → unit_given placed ≡ Some unit → unit < next)
    → IsPermutation (r ∷ old) new → (IsHeap by_falling old → IsHeap by_falling new)
    → IsIndex entries old next placed → IsIndex entries new (next + 1) placed
extended_free entries old new next placed r same near other moved keeps x = record {
  each_once = λ i. omega (
    arith,
    x.each_once i,
    waiting_same i (r ∷ old) new moved,
    waiting-cons i r old,
    ap (one_at i) same,
    file_grows next i x.begun near,
  );
  in_order = keeps x.in_order;
  begun = omega (arith, x.begun);
  few = x.few;
  all = omega (arith, x.all, length_permutation (r ∷ old) new moved, near);
  spot = given_stays entries entries next placed (λ at d lt. refl) (omega arith) other x.spot;
}

pub extended_far : (entries : Entries) (heap : Heap) (next : ℕ) (placed : Option Placed)
    → last_unit < next → ((unit : ℕ) → unit_given placed ≡ Some unit → unit < next) → IsIndex entries heap next placed
    → IsIndex entries heap (next + 1) placed
extended_far entries heap next placed far other x = record {
  each_once = λ i. omega (arith, x.each_once i, file_stays next i far);
  in_order = x.in_order;
  begun = omega (arith, x.begun);
  few = x.few;
  all = omega (arith, x.all, far);
  spot = given_stays entries entries next placed (λ at d lt. refl) (omega arith) other x.spot;
}

pub extended_given : (entries : Entries) (heap : Heap) (next : ℕ) → next ≤ last_unit → IsIndex entries heap next None
    → IsIndex entries heap (next + 1) (taken_unit next)
extended_given entries heap next near x = joined entries heap next near (record {
  each_once = λ i. x.each_once i;
  in_order = x.in_order;
  begun = x.begun;
  few = x.few;
  all = x.all;
  spot = refl;
})

pub more_led_units : (old new : Index) (key : List ℕ)
    → ((k : List ℕ) → unit_of new.entries k ≡ cond (bytes_eq key k) (Some old.next) (unit_of old.entries k))
    → new.next ≡ old.next + 1 → new.placed ≡ old.placed → units new ≡ more_led key (units old)
unfolding more_led
more_led_units old new key of next placed =
    let same : unit_of new.entries ≡ (λ k. cond (bytes_eq key k) (Some old.next) (unit_of old.entries k)) =
    fun_ext of in
    rw (same, next, placed) refl
