-- The types of items.
use Rattle.std.proofs.Common.{◌≡◌, ℕ, ◌<◌, Bool, true, eqb, ltb, List, [], ◌∷◌, refl, arith, inl, inr}
use Rattle.std.specs.Prelude.{nat_eq}
use Rattle.std.specs.List.{list_any, list_all}
use Rattle.std.proofs.lemmas.Bool.{or_cases, and_parts, eqb-true, ltb-true}

-- every type: the last password change, the modifier, the master key's version, the activations, the auxiliary keys and
-- the string attributes
abbrev pub kinds : List ℕ
kinds = 1 ∷ 2 ∷ 8 ∷ 9 ∷ 10 ∷ 11 ∷ []

unfoldable pub is_kind : ℕ → Bool
is_kind kind = list_any (nat_eq kind) kinds

below : (n bound : ℕ) (ks : List ℕ) → list_any (eqb n) ks ≡ true → list_all (λ k. ltb k bound) ks ≡ true → n < bound
below n bound [] e all = absurd cc
below n bound (k ∷ ks) e all =
    let parts = and_parts (ltb k bound) (list_all (λ k. ltb k bound) ks) all in
    elim (or_cases (eqb n k) (list_any (eqb n) ks) e) [
      | inl here ↦ let same : n ≡ k = eqb-true n k here in let lt : k < bound = ltb-true _ _ parts.0 in omega arith
      | inr later ↦ below n bound ks later parts.1
    ]

-- the types are small numbers
pub kind_small : (kind : ℕ) → is_kind kind ≡ true → kind < 100
unfolding is_kind
kind_small kind e = below kind 100 kinds e refl
