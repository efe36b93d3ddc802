-- Keys that are among those of the greatest version, and among remembered ones.
use Rattle.std.proofs.Common.{◌≡◌, Bool, true, false, ◌&&◌, List, [], ◌∷◌, ◌++◌, map, refl, sym, ap, ◌∙◌, ◌⊎◌, inl, inr}
use Rattle.std.specs.Prelude.{filter, ◌||◌}
use Rattle.std.specs.List.{flat_map, list_any}

truth : (b : Bool) → (b ≡ true) ⊎ (b ≡ false)
truth true = inl refl
truth false = inr refl

or_assoc : (a b c : Bool) → ((a || b) || c) ≡ (a || (b || c))
or_assoc true b c = refl
or_assoc false b c = refl

module _ {Y : Type 0} where
  any_append : (test : Y → Bool) (xs ys : List Y) → list_any test (xs ++ ys) ≡ (list_any test xs || list_any test ys)
  any_append test [] ys = refl
  any_append test (x ∷ xs) ys = ap (λ (b : Bool). test x || b) (any_append test xs ys)
      ∙ sym (or_assoc (test x) (list_any test xs) (list_any test ys))

module _ {X : Type 0} where
  kept : (p : X → Bool) (x : X) (xs : List X) → p x ≡ true → filter p (x ∷ xs) ≡ x ∷ filter p xs
  kept p x xs e = rw e refl

  left_out : (p : X → Bool) (x : X) (xs : List X) → p x ≡ false → filter p (x ∷ xs) ≡ filter p xs
  left_out p x xs e = rw e refl

module _ {X Y : Type 0} where
  -- some item of some list passes a test
  pub any_flat : (test : Y → Bool) (f : X → List Y) (xs : List X)
      → list_any (λ x. list_any test (f x)) xs ≡ list_any test (flat_map f xs)
  any_flat test f [] = refl
  any_flat test f (x ∷ xs) =
      ap (λ (b : Bool). list_any test (f x) || b) (any_flat test f xs) ∙ sym (any_append test (f x) (flat_map f xs))

  -- some item passes both tests
  pub any_kept : (test : Y → Bool) (f : X → Y) (p : X → Bool) (xs : List X)
      → list_any (λ x. p x && test (f x)) xs ≡ list_any test (map f (filter p xs))
  any_kept test f p [] = refl
  any_kept test f p (x ∷ xs) =
      elim (truth (p x)) [
        | inl e ↦
            let here : (p x && test (f x)) ≡ test (f x) = rw e refl in
            ap (λ (b : Bool). b || list_any (λ (y : X). p y && test (f y)) xs) here
            ∙ ap (λ (b : Bool). test (f x) || b) (any_kept test f p xs)
            ∙ ap (λ (ys : List X). list_any test (map f ys)) (sym (kept p x xs e))
        | inr e ↦
            let here : (p x && test (f x)) ≡ false = rw e refl in
            ap (λ (b : Bool). b || list_any (λ (y : X). p y && test (f y)) xs) here
            ∙ any_kept test f p xs
            ∙ ap (λ (ys : List X). list_any test (map f ys)) (sym (left_out p x xs e))
      ]
