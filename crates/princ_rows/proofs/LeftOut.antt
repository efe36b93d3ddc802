-- Rows without a key, as a test of each row.
use Rattle.std.proofs.Common.{◌≡◌, ℕ, Bool, true, false, List, [], ◌∷◌, ◌++◌}
use Rattle.std.proofs.Common.{map, Option, Some, None, refl, sym, ap, ◌∙◌}
use Rattle.std.specs.Prelude.{filter, not}
use Rattle.std.specs.List.{AllByRecursion}
use Rattle.std.specs.List.Sorted.{IsStrictlySortedBy}
use Rattle.std.specs.Ordering.{ordering_reverse, is_lt, is_gt, is_eq}
use Rattle.std.specs.declared.cmp.Ordering.{Ordering}
use Rattle.std.specs.declared.cmp.Ordering.TheVariants.{Less, Equal, Greater}
use Rattle.std.proofs.lemmas.Cmp.{nat_list_cmp_total}
use Rattle.std.proofs.lemmas.Map.Text.{is_eq-slice_cmp}
use Rattle.tagged_data.specs.KeyOrder.{key_cmp, AreInOrder}
use Rattle.princ_rows.specs.Effects.{is_lower, is_higher, drop_by}
use Rattle.princ_rows.specs.Undoing.{without, is_left}

module _ {X : Type 0} where
  kept : (p : X → Bool) (y : X) (ys : List X) → p y ≡ true → filter p (y ∷ ys) ≡ y ∷ filter p ys
  kept p y ys e = rw e refl

  left_out : (p : X → Bool) (y : X) (ys : List X) → p y ≡ false → filter p (y ∷ ys) ≡ filter p ys
  left_out p y ys e = rw e refl

  left_by : (key : X → List ℕ) (k : List ℕ) (y : X) (o : Ordering) → key_cmp (key y) k ≡ o
      → is_left key (Some k) y ≡ not (is_eq o)
  left_by key k y o e = ap not (sym (is_eq-slice_cmp (key y) k) ∙ ap is_eq e)

  -- none of the records behind a higher one is lower
  none_lower : (key : X → List ℕ) (k a : List ℕ) (ys : List X) → key_cmp k a ≡ Less
      → AllByRecursion (λ c. key_cmp a c ≡ Less) (map key ys) → filter (is_lower key k) ys ≡ []
  none_lower key k a [] lt h = refl
  none_lower key k a (y ∷ ys) lt h =
      let below : key_cmp k (key y) ≡ Less = nat_list_cmp_total.trans k a (key y) lt h.0 in
      let above : key_cmp (key y) k ≡ Greater = nat_list_cmp_total.antisymm (key y) k ∙ ap ordering_reverse below in
      left_out (is_lower key k) y ys (ap is_lt above) ∙ none_lower key k a ys lt h.1

  -- the step at a record, by where it stands
  step : (key : X → List ℕ) (k : List ℕ) (y : X) (ys : List X) (o : Ordering) → key_cmp (key y) k ≡ o
      → AllByRecursion (λ c. key_cmp (key y) c ≡ Less) (map key ys)
      → drop_by key k ys ≡ filter (is_left key (Some k)) ys
      → drop_by key k (y ∷ ys) ≡ filter (is_left key (Some k)) (y ∷ ys)
  unfolding drop_by
  step key k y ys Less e h others =
      ap (λ (zs : List X). zs ++ filter (is_higher key k) (y ∷ ys)) (kept (is_lower key k) y ys (ap is_lt e))
      ∙ ap (λ (zs : List X). y ∷ (filter (is_lower key k) ys ++ zs)) (left_out (is_higher key k) y ys (ap is_gt e))
      ∙ ap (λ (zs : List X). y ∷ zs) others
      ∙ sym (kept (is_left key (Some k)) y ys (left_by key k y Less e))
  step key k y ys Equal e h others =
      ap (λ (zs : List X). zs ++ filter (is_higher key k) (y ∷ ys)) (left_out (is_lower key k) y ys (ap is_lt e))
      ∙ ap (λ (zs : List X). filter (is_lower key k) ys ++ zs) (left_out (is_higher key k) y ys (ap is_gt e))
      ∙ others
      ∙ sym (left_out (is_left key (Some k)) y ys (left_by key k y Equal e))
  step key k y ys Greater e h others =
      let below : key_cmp k (key y) ≡ Less = nat_list_cmp_total.antisymm k (key y) ∙ ap ordering_reverse e in
      let none = none_lower key k (key y) ys below h in
      ap (λ (zs : List X). zs ++ filter (is_higher key k) (y ∷ ys)) (left_out (is_lower key k) y ys (ap is_lt e) ∙ none)
      ∙ kept (is_higher key k) y ys (ap is_gt e)
      ∙ ap (λ (zs : List X). y ∷ (zs ++ filter (is_higher key k) ys)) (sym none)
      ∙ ap (λ (zs : List X). y ∷ zs) others
      ∙ sym (kept (is_left key (Some k)) y ys (left_by key k y Greater e))

  -- rows in key order without a key are those that have another
  pub drop_is_filter : (key : X → List ℕ) (k : List ℕ) (xs : List X) → AreInOrder (map key xs)
      → drop_by key k xs ≡ filter (is_left key (Some k)) xs
  unfolding IsStrictlySortedBy drop_by
  drop_is_filter key k [] h = refl
  drop_is_filter key k (y ∷ ys) h = step key k y ys (key_cmp (key y) k) refl h.0 (drop_is_filter key k ys h.1)

  all_left : (xs : List X) → xs ≡ filter (λ x. true) xs
  all_left [] = refl
  all_left (y ∷ ys) = ap (λ (zs : List X). y ∷ zs) (all_left ys)

  pub without_is_filter : (key : X → List ℕ) (dropped : Option (List ℕ)) (xs : List X) → AreInOrder (map key xs)
      → without key dropped xs ≡ filter (is_left key dropped) xs
  without_is_filter key None xs h = all_left xs
  without_is_filter key (Some k) xs h = drop_is_filter key k xs h
