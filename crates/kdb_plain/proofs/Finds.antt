-- What a search by key finds among records in the order of their keys.
use Rattle.std.proofs.Common.{◌≡◌, ◌≢◌, ℕ, zero, suc, ◌<◌, Bool, true, false, List, [], ◌∷◌}
use Rattle.std.proofs.Common.{length, map, get_or, Option, Some, None, refl, sym, ap, ◌∙◌, arith}
use Rattle.std.specs.Prelude.{Contains, find, IfSome, option_map, ◌||◌}
use Rattle.std.specs.List.{All, AllByRecursion, list_any}
use Rattle.std.specs.List.Sorted.{IsStrictlySortedBy}
use Rattle.std.specs.Str.{bytes_eq}
use Rattle.std.specs.Ordering.{is_eq}
use Rattle.std.specs.declared.cmp.Ordering.TheVariants.{Less}
use Rattle.std.proofs.lemmas.List.{get_or-map, length-map}
use Rattle.std.proofs.lemmas.List.Elements.{recursion_from_All}
use Rattle.std.proofs.lemmas.Map.Keys.{Less-from_sorted}
use Rattle.std.proofs.lemmas.Map.Text.{is_eq-slice_cmp}
use Rattle.princ_rows.specs.EntryLaws.{same_bytes, bytes_same}
use Rattle.princ_rows.specs.Rows.{IsAt, IsGap}
use Rattle.tagged_data.specs.KeyOrder.{key_cmp, AreInOrder}
use Rattle.princ_rows.proofs.Searches.{none_has}

lower_differs : (a k : List ℕ) → key_cmp a k ≡ Less → bytes_eq a k ≡ false
lower_differs a k lt = sym (is_eq-slice_cmp a k) ∙ ap is_eq lt

differs : (a b : List ℕ) (test : Bool) → bytes_eq a b ≡ test → a ≢ b → test ≡ false
differs a b true e other = absurd (other (same_bytes a b e))
differs a b false e other = refl

or_second : (a b : Bool) → b ≡ true → (a || b) ≡ true
or_second true b e = refl
or_second false b e = e

get_or-any : {X : Type 0} (xs : List X) (i : ℕ) (c d : X) → i < length xs → get_or xs i c ≡ get_or xs i d
get_or-any [] i c d lt = absurd (omega arith)
get_or-any (x ∷ xs) zero c d lt = refl
get_or-any (x ∷ xs) (suc i) c d lt = get_or-any xs i c d (omega arith)

module _ {X : Type 0} (key : X → List ℕ) where
  -- the record has this key
  abbrev pub has : List ℕ → X → Bool
  has name x = bytes_eq (key x) name

  rising : (xs : List X) (i j : ℕ) (d : X) → AreInOrder (map key xs) → i < j → j < length xs
      → key_cmp (key (get_or xs i d)) (key (get_or xs j d)) ≡ Less
  rising xs i j d order lt within =
      let a : get_or (map key xs) i (key d) ≡ key (get_or xs i d) = get_or-map key xs i d (key d) (omega arith) in
      let b : get_or (map key xs) j (key d) ≡ key (get_or xs j d) = get_or-map key xs j d (key d) within in
      rw (← a, ← b) (Less-from_sorted key_cmp (map key xs) i j (key d) order lt (omega (arith, length-map xs key)))

  first_found : (name : List ℕ) (y : X) (ys : List X) → bytes_eq (key y) name ≡ true → find (has name) (y ∷ ys) ≡ Some y
  first_found name y ys e = rw e refl

  first_passed : (name : List ℕ) (y : X) (ys : List X) → bytes_eq (key y) name ≡ false
      → find (has name) (y ∷ ys) ≡ find (has name) ys
  first_passed name y ys e = rw e refl

  found_at : (name : List ℕ) (xs : List X) (x : X) (i : ℕ) → AreInOrder (map key xs) → i < length xs → get_or xs i x ≡ x
      → key x ≡ name → find (has name) xs ≡ Some x
  unfolding IsStrictlySortedBy
  found_at name [] x i order lt at is = absurd (omega arith)
  found_at name (y ∷ ys) x zero order lt at is =
      first_found name y ys (bytes_same (key y) name (ap key at ∙ is)) ∙ ap Some at
  found_at name (y ∷ ys) x (suc i) order lt at is =
      let less : key_cmp (key y) (key (get_or ys i x)) ≡ Less = rising (y ∷ ys) 0 (suc i) x order (omega arith) lt in
      let below : key_cmp (key y) name ≡ Less = ap (λ (k : List ℕ). key_cmp (key y) k) (sym (ap key at ∙ is)) ∙ less in
      first_passed name y ys (lower_differs (key y) name below) ∙ found_at name ys x i order.1 (omega arith) at is

  none_from : (name : List ℕ) (xs : List X) → AllByRecursion (λ x. key x ≢ name) xs → find (has name) xs ≡ None
  none_from name [] others = refl
  none_from name (y ∷ ys) others =
      first_passed name y ys (differs (key y) name (bytes_eq (key y) name) refl others.0) ∙ none_from name ys others.1

  found : {A : Type 0} (value : A → X) (name : List ℕ) (xs : List X) (o : Option A) → AreInOrder (map key xs)
      → IfSome o (λ a. Contains xs (value a) × (key (value a) ≡ name)) → (o ≡ None → All (λ x. key x ≢ name) xs)
      → option_map value o ≡ find (has name) xs
  found value name xs None order there absent =
      sym (none_from name xs (recursion_from_All (λ (x : X). key x ≢ name) xs (absent refl)))
  found value name xs (Some a) order there absent =
      sym (found_at name xs (value a) there.0.0 order there.0.1 there.0.2 there.1)

  -- the same, at the slice that was searched
  pub found_in : {A : Type 0} (value : A → X) (name : List ℕ) (xs ys : List X) (o : Option A) → ys ≡ xs
      → AreInOrder (map key ys)
      → IfSome o (λ a. Contains ys (value a) × (key (value a) ≡ name)) → (o ≡ None → All (λ x. key x ≢ name) ys)
      → option_map value o ≡ find (has name) xs
  found_in value name xs ys o same order there absent =
      found value name ys o order there absent ∙ ap (λ (zs : List X). find (has name) zs) same

  -- ---- whether a record has the key

  any_from : (name : List ℕ) (xs : List X) (x : X) (i : ℕ) → i < length xs → get_or xs i x ≡ x → key x ≡ name
      → list_any (has name) xs ≡ true
  any_from name [] x i lt at is = absurd (omega arith)
  any_from name (y ∷ ys) x zero lt at is = rw (bytes_same (key y) name (ap key at ∙ is)) refl
  any_from name (y ∷ ys) x (suc i) lt at is =
      or_second (bytes_eq (key y) name) (list_any (has name) ys) (any_from name ys x i (omega arith) at is)

  no_from : (name : List ℕ) (xs : List X) → AllByRecursion (λ x. key x ≢ name) xs → list_any (has name) xs ≡ false
  no_from name [] others = refl
  no_from name (y ∷ ys) others =
      rw (differs (key y) name (bytes_eq (key y) name) refl others.0) (no_from name ys others.1)

  at_place : (name : List ℕ) (xs : List X) (at : ℕ) → IsAt key xs name at → true ≡ list_any (has name) xs
  at_place name [] at is = let range = is.in_range in absurd (omega arith)
  at_place name (y ∷ ys) at is =
      let x = get_or (y ∷ ys) at y in
      sym (any_from name (y ∷ ys) x at is.in_range (get_or-any (y ∷ ys) at x y is.in_range) (is.has_key y))

  pub any_at : (name : List ℕ) (xs ys : List X) (at : ℕ) → ys ≡ xs → IsAt key ys name at → true ≡ list_any (has name) xs
  any_at name xs ys at same is = at_place name ys at is ∙ ap (λ (zs : List X). list_any (has name) zs) same

  pub any_gap : (name : List ℕ) (xs ys : List X) (at : ℕ) → ys ≡ xs → IsGap key ys name at
      → false ≡ list_any (has name) xs
  any_gap name xs ys at same gap =
      sym (no_from name ys (recursion_from_All (λ (x : X). key x ≢ name) ys (none_has key ys name at gap)))
      ∙ ap (λ (zs : List X). list_any (has name) zs) same
