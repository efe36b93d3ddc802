-- Activations by rising versions, and the lists that leave some out.
use Rattle.std.proofs.Common.{◌≡◌, ℕ, ◌<◌, ◌≤◌, Bool, true, List, [], ◌∷◌, ◌++◌}
use Rattle.std.proofs.Common.{map, refl, sym, subst, arith, inl, inr, eqb, ltb}
use Rattle.std.specs.Prelude.{filter, not, ⊤}
use Rattle.std.specs.List.{AllByRecursion}
use Rattle.std.specs.List.Sorted.{IsStrictlySortedBy}
use Rattle.std.specs.Cmp.{ranked, nat_cmp_is}
use Rattle.std.specs.Ordering.{nat_cmp}
use Rattle.std.specs.declared.cmp.Ordering.TheVariants.{Less}
use Rattle.std.proofs.lemmas.Bool.{lt-ltb, le-ltb, ltb-true}
use Rattle.kdb_base.specs.Versions.{AreRising}
use Rattle.kdb_base.specs.declared.versions.Activation.{Activation}
use Rattle.key_activation.specs.Activations.{with_activation, without_activation}
use Rattle.key_activation.proofs.Latest.{truth}

abbrev pub version_of : Activation → ℕ
version_of a = a.version

abbrev pub AreAbove : ℕ → List Activation → Type 0
AreAbove n xs = AllByRecursion (λ a. n < a.version) xs

-- `AreRising` over the activations themselves
abbrev pub Rises : List Activation → Type 0
Rises [] = ⊤
Rises (x ∷ xs) = AreAbove x.version xs × Rises xs

above : (n : ℕ) (xs : List Activation) → AllByRecursion (λ k. nat_cmp n k ≡ Less) (map version_of xs) → AreAbove n xs
above n [] h = tt
above n (x ∷ xs) h = (ranked n x.version Less (sym h.0), above n xs h.1)

pub rises : (xs : List Activation) → AreRising (map version_of xs) → Rises xs
unfolding IsStrictlySortedBy
rises [] h = tt
rises (x ∷ xs) h = (above x.version xs h.0, rises xs h.1)

less : (n : ℕ) (xs : List Activation) → AreAbove n xs → AllByRecursion (λ k. nat_cmp n k ≡ Less) (map version_of xs)
less n [] h = tt
less n (x ∷ xs) h = (sym (nat_cmp_is n x.version Less h.0), less n xs h.1)

pub rising : (xs : List Activation) → Rises xs → AreRising (map version_of xs)
unfolding IsStrictlySortedBy
rising [] h = tt
rising (x ∷ xs) h = (less x.version xs h.0, rising xs h.1)

pub empty_rises : (xs : List Activation) → xs ≡ [] → AreRising (map version_of xs)
empty_rises xs is = subst (λ (zs : List Activation). AreRising (map version_of zs)) (sym is) (rising [] tt)

pub farther : (m n : ℕ) (xs : List Activation) → m ≤ n → AreAbove n xs → AreAbove m xs
farther m n [] le h = tt
farther m n (x ∷ xs) le h = let lt = h.0 in (omega arith, farther m n xs le h.1)

-- ---- a filter

above_filter : (n : ℕ) (p : Activation → Bool) (xs : List Activation) → AreAbove n xs → AreAbove n (filter p xs)
above_filter n p [] h = tt
above_filter n p (x ∷ xs) h =
    elim (truth (p x)) [
      | inl e ↦ rw e (h.0, above_filter n p xs h.1)
      | inr e ↦ rw e (above_filter n p xs h.1)
    ]

rises_filter : (p : Activation → Bool) (xs : List Activation) → Rises xs → Rises (filter p xs)
rises_filter p [] h = tt
rises_filter p (x ∷ xs) h =
    elim (truth (p x)) [
      | inl e ↦ rw e (above_filter x.version p xs h.0, rises_filter p xs h.1)
      | inr e ↦ rw e (rises_filter p xs h.1)
    ]

passed : (P : Activation → Type 0) (p : Activation → Bool) → ((a : Activation) → p a ≡ true → P a)
    → (xs : List Activation) → AllByRecursion P (filter p xs)
passed P p is [] = tt
passed P p is (x ∷ xs) =
    elim (truth (p x)) [
      | inl e ↦ rw e (is x e, passed P p is xs)
      | inr e ↦ rw e (passed P p is xs)
    ]

pub rises_without : (version : ℕ) (xs : List Activation) → Rises xs → Rises (without_activation version xs)
unfolding without_activation
rises_without version xs h = rises_filter (λ (a : Activation). not (eqb a.version version)) xs h

-- ---- one put between

above_joined : (n : ℕ) (xs ys : List Activation) → AreAbove n xs → AreAbove n ys → AreAbove n (xs ++ ys)
above_joined n [] ys f g = g
above_joined n (x ∷ xs) ys f g = (f.0, above_joined n xs ys f.1 g)

joined : (xs : List Activation) (y : Activation) (ys : List Activation) → Rises xs
    → AllByRecursion (λ a. a.version < y.version) xs → Rises (y ∷ ys) → Rises (xs ++ y ∷ ys)
joined [] y ys f below g = g
joined (x ∷ xs) y ys f below g =
    let lt = below.0 in (
      above_joined x.version xs (y ∷ ys) f.0 (lt, farther x.version y.version ys (omega arith) g.0),
      joined xs y ys f.1 below.1 g,
    )

pub rises_with : (version secs : ℕ) (xs : List Activation) → Rises xs → Rises (with_activation version secs xs)
unfolding with_activation
rises_with version secs xs h =
    let low : Activation → Bool = λ (a : Activation). ltb a.version version in
    let high : Activation → Bool = λ (a : Activation). ltb version a.version in
    joined (filter low xs) (record { version = version; secs = secs }) (filter high xs) (rises_filter low xs h)
    (passed (λ (a : Activation). a.version < version) low (λ a e. ltb-true a.version version e) xs) (
      passed (λ (a : Activation). version < a.version) high (λ a e. ltb-true version a.version e) xs,
      rises_filter high xs h,
    )

-- ---- behind a version

pub no_lower : (n : ℕ) (xs : List Activation) → AreAbove n xs → filter (λ a. ltb a.version n) xs ≡ []
no_lower n [] h = refl
no_lower n (x ∷ xs) h = let lt = h.0 in let no = le-ltb x.version n (omega arith) in rw no (no_lower n xs h.1)

pub all_higher : (n : ℕ) (xs : List Activation) → AreAbove n xs → filter (λ a. ltb n a.version) xs ≡ xs
all_higher n [] h = refl
all_higher n (x ∷ xs) h = let yes = lt-ltb n x.version h.0 in rw (yes, all_higher n xs h.1) refl
