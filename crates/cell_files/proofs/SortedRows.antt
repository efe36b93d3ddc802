-- Records in key order: lists in order with the same members are equal.
use Rattle.std.proofs.Common.{◌≡◌, ℕ, zero, suc, ◌<◌, ◌≤◌, Bool, true, false, List, [], ◌∷◌, ◌++◌}
use Rattle.std.proofs.Common.{length, map, get_or, refl, sym, ap, ◌∙◌, arith, ◌⊎◌, inl, inr, ⊎_elim}
use Rattle.std.specs.Prelude.{filter, Contains}
use Rattle.std.specs.List.{AllByRecursion, IsDistinct}
use Rattle.std.specs.List.Sorted.{IsPermutation, IsSortedBy, IsStrictlySortedBy}
use Rattle.std.specs.Ordering.{ordering_reverse, is_lt, is_eq}
use Rattle.std.specs.Str.{bytes_eq}
use Rattle.std.specs.declared.cmp.Ordering.{Ordering}
use Rattle.std.specs.declared.cmp.Ordering.TheVariants.{Less, Equal, Greater}
use Rattle.std.proofs.lemmas.Bool.{true≢false, false_from_ne_true}
use Rattle.std.proofs.lemmas.Cmp.{nat_list_cmp_total}
use Rattle.std.proofs.lemmas.List.Elements.{All-from_recursion, recursion_from_All, All-contains}
use Rattle.std.proofs.lemmas.List.Sorted.{IsPermutation-refl, IsPermutation-sym, IsPermutation-cons}
use Rattle.std.proofs.lemmas.List.Sorted.{IsPermutation-trans, IsPermutation-middle, IsPermutation-map}
use Rattle.std.proofs.lemmas.List.Sorted.{All-permutation, Contains-permutation, sorted_far, ranks_by}
use Rattle.std.proofs.lemmas.Map.Keys.{IsDistinct-head, IsDistinct-tail, IsDistinct-IsPermutation}
use Rattle.std.proofs.lemmas.Map.Text.{is_eq-slice_cmp}
use Rattle.princ_rows.specs.EntryLaws.{same_bytes, bytes_same}
use Rattle.tagged_data.specs.KeyOrder.{key_cmp, AreInOrder}
use Rattle.princ_rows.specs.Effects.{is_lower, is_higher, put_by}

-- ---- keys

pub bytes_flip : (a b : List ℕ) → bytes_eq a b ≡ bytes_eq b a
bytes_flip a b = by (bytes_eq a b) refl
  where
    by : (t : Bool) → bytes_eq a b ≡ t → bytes_eq a b ≡ bytes_eq b a
    by true e = e ∙ sym (bytes_same b a (sym (same_bytes a b e)))
    by false e = e ∙ sym (false_from_ne_true _ (λ f. true≢false (sym (bytes_same a b (sym (same_bytes b a f))) ∙ e)))

pub not_less_self : (k : List ℕ) → key_cmp k k ≡ Less → ⊥
not_less_self k lt = let same : is_eq (key_cmp k k) ≡ true = is_eq-slice_cmp k k
    ∙ bytes_same k k refl in let less : is_eq (key_cmp k k) ≡ false = ap is_eq lt in true≢false (sym same ∙ less)

-- a key that is neither another nor below it
above : (a b : List ℕ) (o : Ordering) → key_cmp b a ≡ o → is_lt o ≡ false → bytes_eq a b ≡ false → key_cmp a b ≡ Less
above a b Less e low apart = absurd (true≢false low)
above a b Equal e low apart = let same : is_eq (key_cmp b a) ≡ true =
    ap is_eq e in absurd (true≢false (sym same ∙ is_eq-slice_cmp b a ∙ bytes_flip b a ∙ apart))
above a b Greater e low apart = nat_list_cmp_total.antisymm a b ∙ ap ordering_reverse e

module _ {X : Type 0} (key : X → List ℕ) where
  abbrev lower : X → X → Bool
  lower x y = is_lt (key_cmp (key x) (key y))

  flipped : (x y : X) (zs : List X) → IsPermutation (x ∷ y ∷ zs) (y ∷ x ∷ zs)
  flipped x y zs = IsPermutation-middle (x ∷ []) y zs

  -- ---- a record is put among others that have other keys

  absent : (x y : X) (o : Ordering) → key_cmp (key y) (key x) ≡ o → bytes_eq (key x) (key y) ≡ false → o ≡ Equal → ⊥
  absent x y o e apart is =
      let same : bytes_eq (key y) (key x) ≡ true = sym (is_eq-slice_cmp (key y) (key x)) ∙ ap is_eq (e ∙ is) in
      true≢false (sym same ∙ bytes_flip (key y) (key x) ∙ apart)

  put_at : (x y : X) (ys : List X) (o : Ordering) → key_cmp (key y) (key x) ≡ o → bytes_eq (key x) (key y) ≡ false
      → IsPermutation (x ∷ ys) (filter (is_lower key (key x)) ys ++ x ∷ filter (is_higher key (key x)) ys)
      → IsPermutation (x ∷ y ∷ ys)
      (filter (is_lower key (key x)) (y ∷ ys) ++ x ∷ filter (is_higher key (key x)) (y ∷ ys))
  put_at x y ys Less e apart rest = rw e (IsPermutation-trans _ _ _ (flipped x y ys) (IsPermutation-cons y _ _ rest))
  put_at x y ys Equal e apart rest = absurd (absent x y Equal e apart refl)
  put_at x y ys Greater e apart rest =
      let low = filter (is_lower key (key x)) ys in
      let high = filter (is_higher key (key x)) ys in
      let one : IsPermutation (x ∷ ys) (x ∷ (low ++ high)) =
      IsPermutation-trans _ _ _ rest (IsPermutation-middle low x high) in
      let two : IsPermutation (x ∷ y ∷ ys) (x ∷ y ∷ (low ++ high)) = IsPermutation-trans _ _ _ (flipped x y ys)
      (IsPermutation-trans _ _ _ (IsPermutation-cons y _ _ one) (flipped y x (low ++ high))) in
      let back : IsPermutation (low ++ x ∷ y ∷ high) (x ∷ y ∷ (low ++ high)) = IsPermutation-trans _ _ _
      (IsPermutation-middle low x (y ∷ high)) (IsPermutation-cons x _ _ (IsPermutation-middle low y high)) in
      rw e (IsPermutation-trans _ _ _ two (IsPermutation-sym _ _ back))

  pub put_moved : (x : X) (xs : List X) → AllByRecursion (λ y. bytes_eq (key x) (key y) ≡ false) xs
      → IsPermutation (x ∷ xs) (put_by key x xs)
  unfolding put_by
  put_moved x [] none = IsPermutation-refl (x ∷ [])
  put_moved x (y ∷ ys) none = put_at x y ys (key_cmp (key y) (key x)) refl none.0 (put_moved x ys none.1)

  -- ---- sorted records of which no two have one key are in order

  all_above : (x : X) (ys : List X)
      → AllByRecursion (λ y. lower y x ≡ false) ys → AllByRecursion (λ k. bytes_eq (key x) k ≡ false) (map key ys)
      → AllByRecursion (λ k. key_cmp (key x) k ≡ Less) (map key ys)
  all_above x [] low apart = tt
  all_above x (y ∷ ys) low apart =
      (above (key x) (key y) (key_cmp (key y) (key x)) refl low.0 apart.0, all_above x ys low.1 apart.1)

  none_lower : (x : X) (ys : List X) → ((k : ℕ) → k < length ys → lower (get_or ys k x) x ≡ false)
      → AllByRecursion (λ y. lower y x ≡ false) ys
  none_lower x [] far = tt
  none_lower x (y ∷ ys) far = (far 0 (omega arith), none_lower x ys (λ k lt. far (suc k) (omega (arith, lt))))

  -- no record is below an earlier one
  abbrev IsFar : List X → Type 0
  IsFar xs = (i j : ℕ) (d : X) → i ≤ j → j < length xs → lower (get_or xs j d) (get_or xs i d) ≡ false

  far_order : (xs : List X) → IsFar xs → IsDistinct bytes_eq (map key xs) → AreInOrder (map key xs)
  unfolding IsStrictlySortedBy
  far_order [] far once = tt
  far_order (x ∷ xs) far once = (
    all_above x xs (none_lower x xs (λ k lt. far 0 (suc k) x (omega arith) (omega (arith, lt))))
        (IsDistinct-head bytes_eq (key x) (map key xs) once),
    far_order xs (λ i j d le lt. far (suc i) (suc j) d (omega (arith, le)) (omega (arith, lt)))
        (IsDistinct-tail bytes_eq (key x) (map key xs) once),
  )

  pub sorted_order : (xs ys : List X) → IsPermutation xs ys → IsSortedBy (λ x y. is_lt (key_cmp (key x) (key y))) ys
      → IsDistinct bytes_eq (map key xs) → AreInOrder (map key ys)
  sorted_order xs ys moved sorted once =
      far_order ys (sorted_far lower (ranks_by nat_list_cmp_total key) ys sorted)
      (IsDistinct-IsPermutation bytes_eq bytes_flip (map key xs) (map key ys) (IsPermutation-map key xs ys moved) once)

  -- ---- lists in order with the same members

  key_above : (x : X) (ys : List X) → AllByRecursion (λ k. key_cmp (key x) k ≡ Less) (map key ys)
      → AllByRecursion (λ y. key_cmp (key x) (key y) ≡ Less) ys
  key_above x [] h = tt
  key_above x (y ∷ ys) h = (h.0, key_above x ys h.1)

  -- a member behind the first has a greater key
  member_above : (x : X) (ys : List X) (y : X) → AllByRecursion (λ k. key_cmp (key x) k ≡ Less) (map key ys)
      → Contains ys y → key_cmp (key x) (key y) ≡ Less
  member_above x ys y h has = All-contains (λ (z : X). key_cmp (key x) (key z) ≡ Less) ys y
      (All-from_recursion (λ (z : X). key_cmp (key x) (key z) ≡ Less) ys (key_above x ys h)) has

  first_or : (x y : X) (ys : List X) → Contains (x ∷ ys) y → (x ≡ y) ⊎ Contains ys y
  first_or x y ys (zero, lt, is) = inl is
  first_or x y ys (suc k, lt, is) = inr (k, omega (arith, lt), is)

  first_in : (x : X) (ys : List X) → Contains (x ∷ ys) x
  first_in x ys = (0, omega arith, refl)

  behind_in : (x y : X) (ys : List X) → Contains ys y → Contains (x ∷ ys) y
  behind_in x y ys has = (suc has.0, omega (arith, has.1), has.2)

  -- the first ones are the same
  same_first : (x y : X) (xs ys : List X) → AllByRecursion (λ k. key_cmp (key x) k ≡ Less) (map key xs)
      → AllByRecursion (λ k. key_cmp (key y) k ≡ Less) (map key ys) → Contains (y ∷ ys) x → Contains (x ∷ xs) y → x ≡ y
  same_first x y xs ys low low' has has' = ⊎_elim
      (λ (e : y ≡ x). sym e)
      (λ (there : Contains ys x). ⊎_elim
      (λ (e : x ≡ y). e)
      (λ (there' : Contains xs y). absurd (not_less_self (key x) (nat_list_cmp_total.trans (key x) (key y) (key x)
      (member_above x xs y low there') (member_above y ys x low' there))))
      (first_or x y xs has'))
      (first_or y x ys has)

  behind_first : (x y z : X) (xs ys : List X) → x ≡ y → AllByRecursion (λ k. key_cmp (key x) k ≡ Less) (map key xs)
      → Contains xs z → Contains (y ∷ ys) z → Contains ys z
  behind_first x y z xs ys same low has has' = ⊎_elim
      (λ (e : y ≡ z).
      absurd (not_less_self (key x) (ap (λ (w : X). key_cmp (key x) (key w)) (same ∙ e) ∙ member_above x xs z low has)))
      (λ (there : Contains ys z). there)
      (first_or y z ys has')

  pub same_members : (xs ys : List X) → AreInOrder (map key xs) → AreInOrder (map key ys)
      → ((z : X) → Contains xs z → Contains ys z) → ((z : X) → Contains ys z → Contains xs z) → xs ≡ ys
  unfolding IsStrictlySortedBy
  same_members [] [] h h' to back = refl
  same_members [] (y ∷ ys) h h' to back = let none = back y (first_in y ys) in absurd (omega (arith, none.1))
  same_members (x ∷ xs) [] h h' to back = let none = to x (first_in x xs) in absurd (omega (arith, none.1))
  same_members (x ∷ xs) (y ∷ ys) h h' to back =
      let same = same_first x y xs ys h.0 h'.0 (to x (first_in x xs)) (back y (first_in y ys)) in
      ap (λ (w : X). w ∷ xs) same
      ∙ ap (λ (zs : List X). y ∷ zs) (same_members xs ys h.1 h'.1
      (λ z has. behind_first x y z xs ys same h.0 has (to z (behind_in x z xs has)))
      (λ z has. behind_first y x z ys xs (sym same) h'.0 has (back z (behind_in y z ys has))))

  pub same_moved : (xs ys : List X) → AreInOrder (map key xs) → AreInOrder (map key ys) → IsPermutation xs ys → xs ≡ ys
  same_moved xs ys h h' moved = same_members xs ys h h' (λ z has. Contains-permutation xs ys z moved has)
      (λ z has. Contains-permutation ys xs z (IsPermutation-sym xs ys moved) has)

  -- no record has the key of x, once they are moved
  pub apart_moved : (x : X) (xs ys : List X)
      → IsPermutation xs ys → AllByRecursion (λ k. bytes_eq (key x) k ≡ false) (map key xs)
      → AllByRecursion (λ y. bytes_eq (key x) (key y) ≡ false) ys
  apart_moved x xs ys moved apart =
      let each : AllByRecursion (λ y. bytes_eq (key x) (key y) ≡ false) xs = unkeyed xs apart in
      recursion_from_All (λ (y : X). bytes_eq (key x) (key y) ≡ false) ys
      (All-permutation (λ (y : X). bytes_eq (key x) (key y) ≡ false) xs ys moved
      (All-from_recursion (λ (y : X). bytes_eq (key x) (key y) ≡ false) xs each))
    where
      unkeyed : (zs : List X) → AllByRecursion (λ k. bytes_eq (key x) k ≡ false) (map key zs)
          → AllByRecursion (λ y. bytes_eq (key x) (key y) ≡ false) zs
      unkeyed [] h = tt
      unkeyed (z ∷ zs) h = (h.0, unkeyed zs h.1)
