-- What is found by key behind a put and a drop.
use Rattle.std.proofs.Common.{◌≡◌, ◌≢◌, ℕ, Bool, true, false, List, [], ◌∷◌, ◌++◌}
use Rattle.std.proofs.Common.{Option, Some, None, refl, sym, ap, ◌∙◌, ◌⊎◌, inl, inr}
use Rattle.std.specs.Prelude.{filter, find}
use Rattle.std.specs.Option.{option_or}
use Rattle.std.specs.Ordering.{is_lt, is_gt, is_eq}
use Rattle.std.specs.declared.cmp.Ordering.{Ordering}
use Rattle.std.specs.declared.cmp.Ordering.TheVariants.{Less, Equal, Greater}
use Rattle.std.proofs.lemmas.List.Folds.{find-append}
use Rattle.std.proofs.lemmas.Map.Text.{is_eq-slice_cmp}
use Rattle.princ_rows.specs.Effects.{is_lower, is_higher, put_by, drop_by}
use Rattle.princ_rows.specs.EntryLaws.{same_bytes, bytes_same}
use Rattle.tagged_data.specs.KeyOrder.{key_cmp}
use Rattle.kdb_plain.proofs.Finds.{has}

truth : (b : Bool) → (b ≡ true) ⊎ (b ≡ false)
truth true = inl refl
truth false = inr refl

three : (o : Ordering) → (o ≡ Less) ⊎ ((o ≡ Equal) ⊎ (o ≡ Greater))
three Less = inl refl
three Equal = inr (inl refl)
three Greater = inr (inr refl)

equal_is : (a b : List ℕ) → key_cmp a b ≡ Equal → a ≡ b
equal_is a b e = same_bytes a b (sym (is_eq-slice_cmp a b) ∙ ap is_eq e)

equal_from : (o : Ordering) → is_eq o ≡ true → o ≡ Equal
equal_from Less e = absurd cc
equal_from Equal e = refl
equal_from Greater e = absurd cc

self : (k : List ℕ) → key_cmp k k ≡ Equal
self k = equal_from (key_cmp k k) (is_eq-slice_cmp k k ∙ bytes_same k k refl)

or_none : {A : Type 0} (o : Option A) → option_or o None ≡ o
or_none None = refl
or_none (Some a) = refl

module _ {X : Type 0} (key : X → List ℕ) where
  kept : (p : X → Bool) (y : X) (ys : List X) → p y ≡ true → filter p (y ∷ ys) ≡ y ∷ filter p ys
  kept p y ys e = rw e refl

  left_out : (p : X → Bool) (y : X) (ys : List X) → p y ≡ false → filter p (y ∷ ys) ≡ filter p ys
  left_out p y ys e = rw e refl

  first : (name : List ℕ) (y : X) (ys : List X) → has key name y ≡ true → find (has key name) (y ∷ ys) ≡ Some y
  first name y ys e = rw e refl

  passed : (name : List ℕ) (y : X) (ys : List X) → has key name y ≡ false
      → find (has key name) (y ∷ ys) ≡ find (has key name) ys
  passed name y ys e = rw e refl

  -- a test that keeps the records of a key
  find_kept : (name : List ℕ) (p : X → Bool) → ((y : X) → has key name y ≡ true → p y ≡ true) → (xs : List X)
      → find (has key name) (filter p xs) ≡ find (has key name) xs
  find_kept name p keeps [] = refl
  find_kept name p keeps (y ∷ ys) =
      elim (truth (has key name y)) [
        | inl here ↦ ap (find (has key name)) (kept p y ys (keeps y here)) ∙ first name y (filter p ys) here
            ∙ sym (first name y ys here)
        | inr other ↦
            let rest = find_kept name p keeps ys ∙ sym (passed name y ys other) in
            elim (truth (p y)) [
              | inl e ↦ ap (find (has key name)) (kept p y ys e) ∙ passed name y (filter p ys) other ∙ rest
              | inr e ↦ ap (find (has key name)) (left_out p y ys e) ∙ rest
            ]
      ]

  -- a test that leaves them out
  find_gone : (name : List ℕ) (p : X → Bool) → ((y : X) → has key name y ≡ true → p y ≡ false) → (xs : List X)
      → find (has key name) (filter p xs) ≡ None
  find_gone name p leaves [] = refl
  find_gone name p leaves (y ∷ ys) =
      let rest = find_gone name p leaves ys in
      elim (truth (has key name y)) [
        | inl here ↦ ap (find (has key name)) (left_out p y ys (leaves y here)) ∙ rest
        | inr other ↦
            elim (truth (p y)) [
              | inl e ↦ ap (find (has key name)) (kept p y ys e) ∙ passed name y (filter p ys) other ∙ rest
              | inr e ↦ ap (find (has key name)) (left_out p y ys e) ∙ rest
            ]
      ]

  module _ (name k : List ℕ) (o : Ordering) (is : key_cmp name k ≡ o) where
    at_key : (y : X) → has key name y ≡ true → key_cmp (key y) k ≡ o
    at_key y here = ap (λ (a : List ℕ). key_cmp a k) (same_bytes (key y) name here) ∙ is

    low_kept : is_lt o ≡ true → (xs : List X)
        → find (has key name) (filter (is_lower key k) xs) ≡ find (has key name) xs
    low_kept lt xs = find_kept name (is_lower key k) (λ y here. ap is_lt (at_key y here) ∙ lt) xs

    low_gone : is_lt o ≡ false → (xs : List X) → find (has key name) (filter (is_lower key k) xs) ≡ None
    low_gone lt xs = find_gone name (is_lower key k) (λ y here. ap is_lt (at_key y here) ∙ lt) xs

    high_kept : is_gt o ≡ true → (xs : List X)
        → find (has key name) (filter (is_higher key k) xs) ≡ find (has key name) xs
    high_kept gt xs = find_kept name (is_higher key k) (λ y here. ap is_gt (at_key y here) ∙ gt) xs

    high_gone : is_gt o ≡ false → (xs : List X) → find (has key name) (filter (is_higher key k) xs) ≡ None
    high_gone gt xs = find_gone name (is_higher key k) (λ y here. ap is_gt (at_key y here) ∙ gt) xs

  -- on both sides of another key, the record is found as before
  sides : (name k : List ℕ) (xs middle : List X) → name ≢ k
      → find (has key name) middle ≡ find (has key name) (filter (is_higher key k) xs)
      → find (has key name) (filter (is_lower key k) xs ++ middle) ≡ find (has key name) xs
  sides name k xs middle other same =
      let low = filter (is_lower key k) xs in
      let whole = find-append (has key name) low middle in
      let behind : find (has key name) (low ++ middle)
      ≡ option_or (find (has key name) low) (find (has key name) (filter (is_higher key k) xs)) =
      whole ∙ ap (option_or (find (has key name) low)) same in
      elim (three (key_cmp name k)) [
        | inl lt ↦
            behind ∙ ap (option_or (find (has key name) low)) (high_gone name k Less lt refl xs)
            ∙ or_none (find (has key name) low) ∙ low_kept name k Less lt refl xs
        | inr more ↦ elim more [
          | inl same_key ↦ absurd (other (equal_is name k same_key))
          | inr gt ↦
              behind
              ∙ ap (λ (a : Option X). option_or a (find (has key name) (filter (is_higher key k) xs)))
              (low_gone name k Greater gt refl xs)
              ∙ high_kept name k Greater gt refl xs
        ]
      ]

  other_key : (x : X) (name : List ℕ) → name ≢ key x → has key name x ≡ false
  other_key x name other =
      elim (truth (has key name x)) [
        | inl here ↦ absurd (other (sym (same_bytes (key x) name here)))
        | inr not ↦ not
      ]

  pub put_other : (name : List ℕ) (x : X) (xs : List X) → name ≢ key x
      → find (has key name) (put_by key x xs) ≡ find (has key name) xs
  unfolding put_by
  put_other name x xs other =
      sides name (key x) xs (x ∷ filter (is_higher key (key x)) xs) other
      (passed name x (filter (is_higher key (key x)) xs) (other_key x name other))

  pub put_own : (x : X) (xs : List X) → find (has key (key x)) (put_by key x xs) ≡ Some x
  unfolding put_by
  put_own x xs =
      let name = key x in
      let low = filter (is_lower key name) xs in
      let high = filter (is_higher key name) xs in
      find-append (has key name) low (x ∷ high)
      ∙ ap (λ (a : Option X). option_or a (find (has key name) (x ∷ high)))
      (low_gone name name Equal (self name) refl xs)
      ∙ first name x high (bytes_same name name refl)

  pub drop_other : (name k : List ℕ) (xs : List X) → name ≢ k
      → find (has key name) (drop_by key k xs) ≡ find (has key name) xs
  unfolding drop_by
  drop_other name k xs other = sides name k xs (filter (is_higher key k) xs) other refl

  pub drop_own : (name : List ℕ) (xs : List X) → find (has key name) (drop_by key name xs) ≡ None
  unfolding drop_by
  drop_own name xs =
      let low = filter (is_lower key name) xs in
      let high = filter (is_higher key name) xs in
      find-append (has key name) low high
      ∙ ap (λ (a : Option X). option_or a (find (has key name) high)) (low_gone name name Equal (self name) refl xs)
      ∙ high_gone name name Equal (self name) refl xs
