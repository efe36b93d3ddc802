-- What a binary search by key finds among records in key order.
use Rattle.std.proofs.Common.{◌≡◌, ◌≢◌, ℕ, ◌+◌, ◌<◌, Bool, true, false, List, length, map}
use Rattle.std.proofs.Common.{get_or, Result, Ok, Err, refl, sym, ap, ◌∙◌, arith, inl, inr}
use Rattle.std.specs.List.{All}
use Rattle.std.proofs.lemmas.Bool.{cases_lt}
use Rattle.std.specs.List.Sorted.{IsNonDecreasingBy, IsBinarySearchResult, IsSearchInRange, IsSortedBy}
use Rattle.std.specs.Ordering.{ordering_index, ordering_reverse, is_lt, is_eq}
use Rattle.std.specs.declared.cmp.Ordering.TheVariants.{Less, Equal, Greater}
use Rattle.std.proofs.lemmas.Cmp.{nat_list_cmp_total}
use Rattle.std.proofs.lemmas.List.{get_or-map, length-map}
use Rattle.std.proofs.lemmas.List.Sorted.{searchable_from_sorted}
use Rattle.std.proofs.lemmas.Map.Keys.{Less-from_sorted}
use Rattle.std.proofs.lemmas.Map.Text.{is_eq-slice_cmp}
use Rattle.princ_rows.specs.EntryLaws.{same_bytes, bytes_same}
use Rattle.std.specs.Prelude.{None}
use Rattle.princ_rows.specs.Rows.{IsAt, IsGap}
use Rattle.tagged_data.specs.KeyOrder.{key_cmp, AreInOrder, rises_from}
use Rattle.tagged_data.specs.KeyOrderLaws.{in_order, rises}

pub sorted_keys : {X : Type 0} (key : X → List ℕ) (xs : List X) → AreInOrder (map key xs)
    → IsSortedBy (λ a b. is_lt (key_cmp (key a) (key b))) xs
sorted_keys {X = X} key xs h = λ k d low lt.
    let here : k < length xs = omega arith in
    let rising : key_cmp (get_or (map key xs) k (key d)) (get_or (map key xs) (k + 1) (key d)) ≡ Less =
    Less-from_sorted key_cmp (map key xs) k (k + 1) (key d) h (omega arith) (omega (arith, length-map xs key)) in
    let a : get_or (map key xs) k (key d) ≡ key (get_or xs k d) = get_or-map key xs k d (key d) here in
    let b : get_or (map key xs) (k + 1) (key d) ≡ key (get_or xs (k + 1) d) =
    get_or-map key xs (k + 1) d (key d) (omega arith) in
    let less : key_cmp (key (get_or xs k d)) (key (get_or xs (k + 1) d)) ≡ Less = rw (← a, ← b) rising in
    let back : key_cmp (key (get_or xs (k + 1) d)) (key (get_or xs k d)) ≡ Greater =
    nat_list_cmp_total.antisymm (key (get_or xs (k + 1) d)) (key (get_or xs k d)) ∙ ap ordering_reverse less in
    ap is_lt back

pub searchable : {X : Type 0} (key : X → List ℕ) (xs : List X) (k : List ℕ) → AreInOrder (map key xs)
    → IsNonDecreasingBy (λ y. ordering_index (key_cmp (key y) k)) xs
searchable key xs k h = searchable_from_sorted nat_list_cmp_total key xs k (sorted_keys key xs h)

equal_is : (a b : List ℕ) → key_cmp a b ≡ Equal → a ≡ b
equal_is a b e = same_bytes a b (sym (is_eq-slice_cmp a b) ∙ ap is_eq e)

same_ok : (i j : ℕ) → ◌≡◌ {A = Result ℕ ℕ} (Ok i) (Ok j) → i ≡ j
same_ok i j e = cc

same_err : (i j : ℕ) → ◌≡◌ {A = Result ℕ ℕ} (Err i) (Err j) → i ≡ j
same_err i j e = cc

pub found_at : {X : Type 0} (key : X → List ℕ) (xs : List X) (k : List ℕ) (at : ℕ) (r : Result ℕ ℕ) → r ≡ Ok at
    → IsSearchInRange r (length xs) → IsBinarySearchResult (λ y. key_cmp (key y) k) xs r → IsAt key xs k at
found_at key xs k at (Ok i) e bound is =
    let same : i ≡ at = same_ok i at e in
    record {
      in_range = omega (arith, bound);
      has_key =
          λ d. equal_is (key (get_or xs at d)) k (ap (λ (j : ℕ). key_cmp (key (get_or xs j d)) k) (sym same) ∙ is d);
    }
found_at key xs k at (Err i) e bound is = absurd cc

pub gap_at : {X : Type 0} (key : X → List ℕ) (xs : List X) (k : List ℕ) (at : ℕ) (r : Result ℕ ℕ) → r ≡ Err at
    → AreInOrder (map key xs) → IsSearchInRange r (length xs) → IsBinarySearchResult (λ y. key_cmp (key y) k) xs r
    → IsGap key xs k at
gap_at key xs k at (Ok i) e h bound is = absurd cc
gap_at key xs k at (Err i) e h bound is =
    let same : i ≡ at = same_err i at e in
    let parted = is (searchable key xs k h) in
    record {
      in_range = omega (arith, bound);
      lower = λ j d lt. parted.0 j d (omega arith) (omega arith);
      higher = λ j d le lt. parted.1 j d (omega arith) lt;
    }

equal_self : (k : List ℕ) → is_eq (key_cmp k k) ≡ true
equal_self k = is_eq-slice_cmp k k ∙ bytes_same k k refl

no_less : (k a : List ℕ) → key_cmp a k ≡ Less → a ≢ k
no_less k a lt e =
    let same : is_eq (key_cmp k k) ≡ false = ap (λ (b : List ℕ). is_eq (key_cmp b k)) (sym e) ∙ ap is_eq lt in
    let self = equal_self k in absurd cc

no_greater : (k a : List ℕ) → key_cmp a k ≡ Greater → a ≢ k
no_greater k a gt e =
    let same : is_eq (key_cmp k k) ≡ false = ap (λ (b : List ℕ). is_eq (key_cmp b k)) (sym e) ∙ ap is_eq gt in
    let self = equal_self k in absurd cc

-- where there is a gap, no record has the key
pub none_has : {X : Type 0} (key : X → List ℕ) (xs : List X) (k : List ℕ) (at : ℕ) → IsGap key xs k at
    → All (λ x. key x ≢ k) xs
none_has key xs k at gap = λ j d lt.
    elim (cases_lt j at) [
      | inl below ↦ no_less k (key (get_or xs j d)) (gap.lower j d below)
      | inr from ↦ no_greater k (key (get_or xs j d)) (gap.higher j d from lt)
    ]

not_in_order : (keys : List (List ℕ)) (test : Bool) → test ≡ rises_from None keys → test ≡ false → AreInOrder keys → ⊥
not_in_order keys test is e h = let yes = rises keys h in absurd cc

-- the order of records that were tested
pub tested_order : {X : Type 0} (key : X → List ℕ) (xs ys : List X) (test : Bool) → xs ≡ ys
    → test ≡ rises_from None (map key xs) → test ≡ true → AreInOrder (map key ys)
tested_order {X = X} key xs ys test same is e =
    in_order (map key ys) (ap (λ (zs : List X). rises_from None (map key zs)) (sym same) ∙ sym is ∙ e)

pub untested_order : {X : Type 0} (key : X → List ℕ) (xs ys : List X) (test : Bool) → xs ≡ ys
    → test ≡ rises_from None (map key xs) → test ≡ false → AreInOrder (map key ys) → ⊥
untested_order {X = X} key xs ys test same is e h =
    not_in_order (map key ys) test (is ∙ ap (λ (zs : List X). rises_from None (map key zs)) same) e h
