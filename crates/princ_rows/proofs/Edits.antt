-- Edits of records in key order, at the place that a search found.
use Rattle.std.proofs.Common.{◌≡◌, ℕ, zero, suc, ◌<◌, ◌≤◌, Bool, true, false, List, [], ◌∷◌, ◌++◌, length}
use Rattle.std.proofs.Common.{map, get_or, set, take, drop, refl, sym, ap, subst, ◌∙◌, arith, inl, inr}
use Rattle.std.specs.Prelude.{filter}
use Rattle.std.specs.List.{insert, remove}
use Rattle.std.specs.Ordering.{ordering_reverse, is_lt, is_gt, is_eq}
use Rattle.std.specs.declared.cmp.Ordering.{Ordering}
use Rattle.std.specs.declared.cmp.Ordering.TheVariants.{Less, Equal, Greater}
use Rattle.std.proofs.lemmas.Bool.{cases_lt}
use Rattle.std.proofs.lemmas.Cmp.{nat_list_cmp_total}
use Rattle.std.proofs.lemmas.List.{get_or-map, length-map, take-append-drop}
use Rattle.std.proofs.lemmas.Map.Keys.{Less-from_sorted}
use Rattle.std.proofs.lemmas.Map.Text.{is_eq-slice_cmp}
use Rattle.princ_rows.specs.EntryLaws.{bytes_same}
use Rattle.princ_rows.specs.Rows.{IsAt, IsGap}
use Rattle.tagged_data.specs.KeyOrder.{key_cmp, AreInOrder}
use Rattle.princ_rows.specs.Effects.{is_lower, is_higher, put_by, drop_by}

is_equal : (o : Ordering) → is_eq o ≡ true → o ≡ Equal
is_equal Less e = absurd cc
is_equal Equal e = refl
is_equal Greater e = absurd cc

same_key : (k : List ℕ) → key_cmp k k ≡ Equal
same_key k = is_equal (key_cmp k k) (is_eq-slice_cmp k k ∙ bytes_same k k refl)

module _ {X : Type 0} where
  filter_yes : (p : X → Bool) (y : X) (ys : List X) → p y ≡ true → filter p (y ∷ ys) ≡ y ∷ filter p ys
  filter_yes p y ys e = rw e refl

  filter_no : (p : X → Bool) (y : X) (ys : List X) → p y ≡ false → filter p (y ∷ ys) ≡ filter p ys
  filter_no p y ys e = rw e refl

  filter_front : (p : X → Bool) (xs : List X) (at : ℕ)
      → at ≤ length xs → ((j : ℕ) (d : X) → j < at → p (get_or xs j d) ≡ true)
      → ((j : ℕ) (d : X) → at ≤ j → j < length xs → p (get_or xs j d) ≡ false) → filter p xs ≡ take at xs
  filter_front p [] zero le passes fails = refl
  filter_front p [] (suc at) le passes fails = absurd (omega arith)
  filter_front p (y ∷ ys) zero le passes fails =
      filter_no p y ys (fails 0 y (omega arith) (omega arith)) ∙ filter_front p ys 0 (omega arith)
      (λ j d lt. absurd (omega arith)) (λ j d low lt. fails (suc j) d (omega arith) (omega arith))
  filter_front p (y ∷ ys) (suc at) le passes fails =
      filter_yes p y ys (passes 0 y (omega arith)) ∙ ap (λ (zs : List X). y ∷ zs) (filter_front p ys at (omega arith)
      (λ j d lt. passes (suc j) d (omega arith)) (λ j d low lt. fails (suc j) d (omega arith) (omega arith)))

  filter_back : (p : X → Bool) (xs : List X) (at : ℕ)
      → at ≤ length xs → ((j : ℕ) (d : X) → j < at → p (get_or xs j d) ≡ false)
      → ((j : ℕ) (d : X) → at ≤ j → j < length xs → p (get_or xs j d) ≡ true) → filter p xs ≡ drop at xs
  filter_back p [] zero le fails passes = refl
  filter_back p [] (suc at) le fails passes = absurd (omega arith)
  filter_back p (y ∷ ys) zero le fails passes =
      filter_yes p y ys (passes 0 y (omega arith) (omega arith)) ∙ ap (λ (zs : List X). y ∷ zs) (filter_back p ys 0
      (omega arith) (λ j d lt. absurd (omega arith)) (λ j d low lt. passes (suc j) d (omega arith) (omega arith)))
  filter_back p (y ∷ ys) (suc at) le fails passes =
      filter_no p y ys (fails 0 y (omega arith)) ∙ filter_back p ys at (omega arith)
      (λ j d lt. fails (suc j) d (omega arith)) (λ j d low lt. passes (suc j) d (omega arith) (omega arith))

  set_parts : (xs : List X) (at : ℕ) (x : X) → at < length xs → set xs at x ≡ take at xs ++ x ∷ drop (suc at) xs
  set_parts [] at x lt = absurd (omega arith)
  set_parts (y ∷ ys) zero x lt = refl
  set_parts (y ∷ ys) (suc at) x lt = ap (λ (zs : List X). y ∷ zs) (set_parts ys at x (omega arith))

  -- ---- at a gap

  gap_lower : (key : X → List ℕ) (xs : List X) (k : List ℕ) (at : ℕ) → IsGap key xs k at
      → filter (is_lower key k) xs ≡ take at xs
  gap_lower key xs k at gap = filter_front (is_lower key k) xs at gap.in_range (λ j d lt. ap is_lt (gap.lower j d lt))
      (λ j d low lt. ap is_lt (gap.higher j d low lt))

  gap_higher : (key : X → List ℕ) (xs : List X) (k : List ℕ) (at : ℕ) → IsGap key xs k at
      → filter (is_higher key k) xs ≡ drop at xs
  gap_higher key xs k at gap = filter_back (is_higher key k) xs at gap.in_range (λ j d lt. ap is_gt (gap.lower j d lt))
      (λ j d low lt. ap is_gt (gap.higher j d low lt))

  pub insert_is_put : (key : X → List ℕ) (xs : List X) (x : X) (at : ℕ) → IsGap key xs (key x) at
      → insert xs at x ≡ put_by key x xs
  unfolding put_by
  insert_is_put key xs x at gap = rw (gap_lower key xs (key x) at gap, gap_higher key xs (key x) at gap) refl

  pub gap_is_drop : (key : X → List ℕ) (xs : List X) (k : List ℕ) (at : ℕ) → IsGap key xs k at → xs ≡ drop_by key k xs
  unfolding drop_by
  gap_is_drop key xs k at gap =
      let parts : drop_by key k xs ≡ take at xs ++ drop at xs =
      rw (gap_lower key xs k at gap, gap_higher key xs k at gap) refl in
      sym (parts ∙ take-append-drop at xs)

  -- ---- at the record of the key

  rising : (key : X → List ℕ) (xs : List X) (i j : ℕ) (d : X) → AreInOrder (map key xs) → i < j → j < length xs
      → key_cmp (key (get_or xs i d)) (key (get_or xs j d)) ≡ Less
  rising key xs i j d h lt in_range =
      let a : get_or (map key xs) i (key d) ≡ key (get_or xs i d) = get_or-map key xs i d (key d) (omega arith) in
      let b : get_or (map key xs) j (key d) ≡ key (get_or xs j d) = get_or-map key xs j d (key d) in_range in
      rw (← a, ← b) (Less-from_sorted key_cmp (map key xs) i j (key d) h lt (omega (arith, length-map xs key)))

  below_at : (key : X → List ℕ) (xs : List X) (k : List ℕ) (at j : ℕ) (d : X) → AreInOrder (map key xs)
      → IsAt key xs k at → j < at → key_cmp (key (get_or xs j d)) k ≡ Less
  below_at key xs k at j d h is lt =
      ap (λ (c : List ℕ). key_cmp (key (get_or xs j d)) c) (sym (is.has_key d)) ∙ rising key xs j at d h lt is.in_range

  above_at : (key : X → List ℕ) (xs : List X) (k : List ℕ) (at j : ℕ) (d : X) → AreInOrder (map key xs)
      → IsAt key xs k at → at < j → j < length xs → key_cmp (key (get_or xs j d)) k ≡ Greater
  above_at key xs k at j d h is lt in_range =
      ap (λ (c : List ℕ). key_cmp (key (get_or xs j d)) c) (sym (is.has_key d))
      ∙ nat_list_cmp_total.antisymm (key (get_or xs j d)) (key (get_or xs at d))
      ∙ ap ordering_reverse (rising key xs at j d h lt in_range)

  equal_at : (key : X → List ℕ) (xs : List X) (k : List ℕ) (at : ℕ) (d : X) → IsAt key xs k at
      → key_cmp (key (get_or xs at d)) k ≡ Equal
  equal_at key xs k at d is = ap (λ (c : List ℕ). key_cmp c k) (is.has_key d) ∙ same_key k

  at_or_above : (key : X → List ℕ) (xs : List X) (k : List ℕ) (at j : ℕ) (d : X) → AreInOrder (map key xs)
      → IsAt key xs k at → at ≤ j → j < length xs → is_lt (key_cmp (key (get_or xs j d)) k) ≡ false
  at_or_above key xs k at j d h is le lt =
      elim (cases_lt at j) [
        | inl above ↦ ap is_lt (above_at key xs k at j d h is above lt)
        | inr from ↦ let same : at ≡ j = omega arith in
            ap is_lt (ap (λ (i : ℕ). key_cmp (key (get_or xs i d)) k) (sym same) ∙ equal_at key xs k at d is)
      ]

  at_or_below : (key : X → List ℕ) (xs : List X) (k : List ℕ) (at j : ℕ) (d : X) → AreInOrder (map key xs)
      → IsAt key xs k at → j < suc at → is_gt (key_cmp (key (get_or xs j d)) k) ≡ false
  at_or_below key xs k at j d h is lt =
      elim (cases_lt j at) [
        | inl below ↦ ap is_gt (below_at key xs k at j d h is below)
        | inr from ↦ let same : at ≡ j = omega arith in
            ap is_gt (ap (λ (i : ℕ). key_cmp (key (get_or xs i d)) k) (sym same) ∙ equal_at key xs k at d is)
      ]

  at_lower : (key : X → List ℕ) (xs : List X) (k : List ℕ) (at : ℕ) → AreInOrder (map key xs) → IsAt key xs k at
      → filter (is_lower key k) xs ≡ take at xs
  at_lower key xs k at h is =
      let range = is.in_range in
      filter_front (is_lower key k) xs at (omega arith) (λ j d lt. ap is_lt (below_at key xs k at j d h is lt))
      (λ j d low lt. at_or_above key xs k at j d h is low lt)

  at_higher : (key : X → List ℕ) (xs : List X) (k : List ℕ) (at : ℕ) → AreInOrder (map key xs) → IsAt key xs k at
      → filter (is_higher key k) xs ≡ drop (suc at) xs
  at_higher key xs k at h is =
      let range = is.in_range in
      filter_back (is_higher key k) xs (suc at) (omega arith) (λ j d lt. at_or_below key xs k at j d h is lt)
      (λ j d low lt. ap is_gt (above_at key xs k at j d h is (omega arith) lt))

  pub set_is_put : (key : X → List ℕ) (xs : List X) (x : X) (at : ℕ) → AreInOrder (map key xs) → IsAt key xs (key x) at
      → set xs at x ≡ put_by key x xs
  unfolding put_by
  set_is_put key xs x at h is =
      let parts : put_by key x xs ≡ take at xs ++ x ∷ drop (suc at) xs =
      rw (at_lower key xs (key x) at h is, at_higher key xs (key x) at h is) refl in
      set_parts xs at x is.in_range ∙ sym parts

  pub remove_is_drop : (key : X → List ℕ) (xs : List X) (k : List ℕ) (at : ℕ) → AreInOrder (map key xs)
      → IsAt key xs k at → remove xs at ≡ drop_by key k xs
  unfolding drop_by
  remove_is_drop key xs k at h is = rw (at_lower key xs k at h is, at_higher key xs k at h is) refl

  -- ---- the same, at the slice and the key that were searched

  place_at : (key : X → List ℕ) (xs ys : List X) (c k : List ℕ) (at : ℕ) → ys ≡ xs → c ≡ k → IsAt key ys c at
      → IsAt key xs k at
  place_at key xs ys c k at same is place =
      subst (λ (zs : List X). IsAt key zs k at) same (subst (λ (b : List ℕ). IsAt key ys b at) is place)

  gap_in : (key : X → List ℕ) (xs ys : List X) (c k : List ℕ) (at : ℕ) → ys ≡ xs → c ≡ k → IsGap key ys c at
      → IsGap key xs k at
  gap_in key xs ys c k at same is place =
      subst (λ (zs : List X). IsGap key zs k at) same (subst (λ (b : List ℕ). IsGap key ys b at) is place)

  pub put_found : (key : X → List ℕ) (xs ys : List X) (x : X) (c : List ℕ) (at : ℕ) → ys ≡ xs → c ≡ key x
      → AreInOrder (map key xs) → IsAt key ys c at → set xs at x ≡ put_by key x xs
  put_found key xs ys x c at same is h place = set_is_put key xs x at h (place_at key xs ys c (key x) at same is place)

  pub put_absent : (key : X → List ℕ) (xs ys : List X) (x : X) (c : List ℕ) (at : ℕ) → ys ≡ xs → c ≡ key x
      → IsGap key ys c at → insert xs at x ≡ put_by key x xs
  put_absent key xs ys x c at same is place = insert_is_put key xs x at (gap_in key xs ys c (key x) at same is place)

  pub drop_found : (key : X → List ℕ) (xs ys : List X) (k : List ℕ) (at : ℕ) → ys ≡ xs → AreInOrder (map key xs)
      → IsAt key ys k at → remove xs at ≡ drop_by key k xs
  drop_found key xs ys k at same h place = remove_is_drop key xs k at h (place_at key xs ys k k at same refl place)

  pub drop_absent : (key : X → List ℕ) (xs ys : List X) (k : List ℕ) (at : ℕ) → ys ≡ xs → IsGap key ys k at
      → xs ≡ drop_by key k xs
  drop_absent key xs ys k at same place = gap_is_drop key xs k at (gap_in key xs ys k k at same refl place)
