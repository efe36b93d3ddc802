-- Lemmas on the residue from 1 on.
use Rattle.std.proofs.Common.{◌≡◌, ℕ, zero, suc, ◌+◌, ◌-◌, ◌*◌, ◌/◌, ◌%◌, ◌<◌, ◌≤◌, ◌∙◌, sym, inl, inr, arith}
use Rattle.std.proofs.lemmas.Bool.{cases_lt}
use Rattle.std.proofs.Math.Nat.{div-add-mod, mul-add-mod_self_left, mod-eq_of_lt}
use Rattle.krb_profile.specs.NFold.{residue}

-- a number from 1 to m is the residue of what it is congruent to
pub residue-unique : (m s v q : ℕ) → 1 ≤ v → v ≤ m → s ≡ m * q + v → residue m s ≡ v
unfolding residue
residue-unique m zero v q some few split = absurd (omega arith)
residue-unique m (suc s) v q some few split =
    let before : s ≡ m * q + (v - 1) = omega arith in
    let rest : s % m ≡ v - 1 = rw before (mul-add-mod_self_left m q (v - 1) ∙ mod-eq_of_lt (omega arith)) in
    rw rest (omega arith)

-- a number from 1 on by its residue
pub residue-split : (m s : ℕ) → 1 ≤ m
    → (suc s ≡ m * (s / m) + residue m (suc s)) × (1 ≤ residue m (suc s)) × (residue m (suc s) ≤ m)
unfolding residue
residue-split m s some =
    let whole = div-add-mod s m in
    let below : s % m < m = omega arith in
    (omega (arith, whole), omega arith, omega (arith, below))

-- the residue of a sum, of which the first part is known by its residue: what is carried out of m + 1 is added at
-- the bottom
residue-add_to_zero : (m p w c : ℕ) → p ≤ m → c ≤ 1 → w + (m + 1) * c ≡ p → w + c ≡ residue m p
unfolding residue
residue-add_to_zero m zero w c few carried total =
    elim (cases_lt c 1) [
      | inl none ↦ let c_none : c ≡ 0 = omega arith in let same = rw c_none at total in omega (arith, same, c_none)
      | inr one ↦ let c_one : c ≡ 1 = omega arith in let same = rw c_one at total in absurd (omega (arith, same))
    ]
residue-add_to_zero m (suc p) w c few carried total =
    elim (cases_lt c 1) [
      | inl none ↦
          let c_none : c ≡ 0 = omega arith in
          let same = rw c_none at total in
          sym (residue-unique m (suc p) (w + c) 0 (omega (arith, same)) (omega (arith, same)) (omega (arith, same)))
      | inr one ↦ let c_one : c ≡ 1 = omega arith in let same = rw c_one at total in absurd (omega (arith, same))
    ]

residue-add_to_more : (m s r q p w c : ℕ) → 1 ≤ r → r ≤ m → p ≤ m → w ≤ m → c ≤ 1 → s ≡ m * q + r
    → w + (m + 1) * c ≡ r + p →
    w + c ≡ residue m (s + p)
residue-add_to_more m s r q p w c given most few below carried split total =
    elim (cases_lt c 1) [
      | inl none ↦
          let c_none : c ≡ 0 = omega arith in
          let same = rw c_none at total in
          sym (residue-unique m (s + p) (w + c) q (omega (arith, same)) (omega (arith, same)) (omega (arith, same)))
      | inr one ↦
          let c_one : c ≡ 1 = omega arith in
          let same = rw c_one at total in
          sym (residue-unique m (s + p) (w + c) (q + 1) (omega (arith, same)) (omega (arith, same)) (omega (
            arith,
            same,
          )))
    ]

pub residue-add : (m s p w c : ℕ) → 1 ≤ m → p ≤ m → w ≤ m → c ≤ 1 → w + (m + 1) * c ≡ residue m s + p
    → w + c ≡ residue m (s + p)
unfolding residue
residue-add m zero p w c some few below carried total =
    let none : 0 + p ≡ p = omega arith in
    let same : w + (m + 1) * c ≡ p = omega (arith, total) in
    rw none (residue-add_to_zero m p w c few carried same)
residue-add m (suc s) p w c some few below carried total =
    let parts = residue-split m s some in
    residue-add_to_more m (suc s) (residue m (suc s)) (s / m) p w c parts.1 parts.2 few below carried parts.0 total

pub residue-le : (m s : ℕ) → 1 ≤ m → residue m s ≤ m
unfolding residue
residue-le m zero some = omega arith
residue-le m (suc s) some = (residue-split m s some).2
