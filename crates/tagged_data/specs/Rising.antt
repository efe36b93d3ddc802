-- Rising numbers, as a test.
use Rattle.std.proofs.Common.{◌≡◌, ℕ, zero, suc, ◌+◌, ◌<◌, ◌≤◌, Bool, true, ◌&&◌}
use Rattle.std.proofs.Common.{leb, List, [], ◌∷◌, length, refl, ap, arith}
use Rattle.std.specs.Prelude.{nat_le, slice_index}
use Rattle.std.specs.List.Sorted.{IsStrictlyIncreasing}
use Rattle.std.proofs.lemmas.Bool.{and_parts, and_from, leb-true, le-leb}
use Rattle.std.proofs.lemmas.Map.Keys.{IsStrictlyIncreasing-from_sorted, sorted_from_strictly_increasing}
use Rattle.kdb_base.specs.Versions.{AreRising}

-- each number is above the one before it, and the first is at least this one
unfoldable pub rising_from : ℕ → List ℕ → Bool
rising_from least [] = true
rising_from least (n ∷ ns) = nat_le least n && rising_from (n + 1) ns

-- an entry behind the first
behind : (n : ℕ) (ns : List ℕ) (k : ℕ) → slice_index (n ∷ ns) (suc k + 1) ≡ slice_index ns (k + 1)
behind n ns k = let e : suc k + 1 ≡ suc (k + 1) = omega arith in ap (slice_index (n ∷ ns)) e

increasing : (least : ℕ) (ns : List ℕ) → rising_from least ns ≡ true → IsStrictlyIncreasing ns
unfolding rising_from
increasing least [] e k lt = absurd (omega arith)
increasing least (n ∷ []) e k lt = absurd (omega arith)
increasing least (n ∷ m ∷ ns) e zero lt =
    let p = and_parts (leb least n) (rising_from (n + 1) (m ∷ ns)) e in
    let q = and_parts (leb (n + 1) m) (rising_from (m + 1) ns) p.1 in
    let here : n + 1 ≤ m = leb-true _ _ q.0 in
    omega arith
increasing least (n ∷ m ∷ ns) e (suc k) lt =
    let p = and_parts (leb least n) (rising_from (n + 1) (m ∷ ns)) e in
    let others : slice_index (m ∷ ns) k < slice_index (m ∷ ns) (k + 1) =
    increasing (n + 1) (m ∷ ns) p.1 k (omega arith) in
    omega (arith, behind n (m ∷ ns) k)

rising : (least : ℕ) (ns : List ℕ) → IsStrictlyIncreasing ns → (0 < length ns → least ≤ slice_index ns 0)
    → rising_from least ns ≡ true
unfolding rising_from
rising least [] h first = refl
rising least (n ∷ []) h first = and_from (leb least n) true (le-leb _ _ (first (omega arith))) refl
rising least (n ∷ m ∷ ns) h first =
    let here : n < m = h 0 (omega arith) in
    and_from (leb least n) (rising_from (n + 1) (m ∷ ns)) (le-leb _ _ (first (omega arith)))
    (rising (n + 1) (m ∷ ns)
    (λ k lt. let later : slice_index (m ∷ ns) k < slice_index (n ∷ m ∷ ns) (suc k + 1) =
    h (suc k) (omega arith) in omega (arith, behind n (m ∷ ns) k))
    (λ _. omega arith))

pub rising_is : (ns : List ℕ) → rising_from 0 ns ≡ true → AreRising ns
rising_is ns e = sorted_from_strictly_increasing ns (increasing 0 ns e)

pub is_rising : (ns : List ℕ) → AreRising ns → rising_from 0 ns ≡ true
is_rising ns h = rising 0 ns (IsStrictlyIncreasing-from_sorted ns h) (λ _. omega arith)
