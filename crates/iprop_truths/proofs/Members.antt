-- What a list with one more item contains.
use Rattle.std.proofs.Common.{◌≡◌, ℕ, zero, suc, ◌<◌, ◌⊎◌, inl, inr, List, ◌∷◌, length, refl, arith}
use Rattle.std.specs.Prelude.{Contains, slice_index_or}

pub contains_first : {X : Type 0} (x : X) (xs : List X) → Contains (x ∷ xs) x
contains_first x xs = (0, omega arith, refl)

pub contains_more : {X : Type 0} (x : X) (xs : List X) (y : X) → Contains xs y → Contains (x ∷ xs) y
contains_more x xs y h = let within = h.1 in (suc h.0, omega arith, h.2)

first_or_more : {X : Type 0} (x : X) (xs : List X) (y : X) (i : ℕ) → i < length (x ∷ xs)
    → slice_index_or (x ∷ xs) i y ≡ y → (x ≡ y) ⊎ Contains xs y
first_or_more x xs y zero within is = inl is
first_or_more x xs y (suc i) within is = inr (i, omega (arith, within), is)

pub contains_cases : {X : Type 0} (x : X) (xs : List X) (y : X) → Contains (x ∷ xs) y → (x ≡ y) ⊎ Contains xs y
contains_cases x xs y h = first_or_more x xs y h.0 h.1 h.2
