-- The least common multiple is one: both numbers divide it, and no smaller number from 1 on.
use Rattle.std.proofs.Common.{◌≡◌, ℕ, zero, suc, ◌+◌, ◌-◌, ◌*◌, ◌/◌, ◌%◌, ◌≤◌, inl, inr, add-zero, arith}
use Rattle.std.proofs.lemmas.Bool.Decides.{eqb_tells}
use Rattle.std.proofs.Math.Nat.{div-add-mod, mul-mod_left, mul-mod_right, mul-le-mul_right}
use Rattle.krb_profile.specs.NFold.{first_common, least_common_multiple}

-- what is found is a multiple of a, where the last place looked at is one
first_common-common : (a n k tries : ℕ) → (k + tries) * n % a ≡ 0 → first_common a n k tries % a ≡ 0
unfolding first_common
first_common-common a n k zero last = rw add-zero at last
first_common-common a n k (suc tries) last =
    elim (eqb_tells (k * n % a) 0) [
      | inl here ↦ rw here.0 here.1
      | inr other ↦
          let place : k + suc tries ≡ suc k + tries = omega arith in
          rw other.0 (first_common-common a n (suc k) tries (rw place at last))
    ]

-- and of n
first_common-multiple : (a n k tries : ℕ) → first_common a n k tries % n ≡ 0
unfolding first_common
first_common-multiple a n k zero = mul-mod_left k n
first_common-multiple a n k (suc tries) =
    elim (eqb_tells (k * n % a) 0) [
      | inl here ↦ rw here.0 (mul-mod_left k n)
      | inr other ↦ rw other.0 (first_common-multiple a n (suc k) tries)
    ]

-- and none from k n on is smaller
first_common-least : (a n k tries j : ℕ) → k ≤ j → j * n % a ≡ 0 → first_common a n k tries ≤ j * n
unfolding first_common
first_common-least a n k zero j from common = mul-le-mul_right n from
first_common-least a n k (suc tries) j from common =
    elim (eqb_tells (k * n % a) 0) [
      | inl here ↦ rw here.0 (mul-le-mul_right n from)
      | inr other ↦
          let differs : k ≡ j → ⊥ = λ same. other.1 (rw same common) in
          rw other.0 (first_common-least a n (suc k) tries j (omega (arith, differs)) common)
    ]

pub record IsLeastCommonMultiple (a n m : ℕ) : Type 0 where
  pub of_a : m % a ≡ 0
  pub of_n : m % n ≡ 0
  pub least : (other : ℕ) → 1 ≤ other → other % a ≡ 0 → other % n ≡ 0 → m ≤ other

pub least_common_multiple-is : (a n : ℕ) → 1 ≤ a → 1 ≤ n → IsLeastCommonMultiple a n (least_common_multiple a n)
unfolding least_common_multiple
least_common_multiple-is a n a_given n_given = record {
  of_a =
      let last : 1 + (a - 1) ≡ a = omega arith in
      first_common-common a n 1 (a - 1) (rw last (mul-mod_right a n));
  of_n = first_common-multiple a n 1 (a - 1);
  least = λ other given of_a of_n.
      let whole = div-add-mod other n in
      let times : other ≡ other / n * n = omega (arith, whole, of_n) in
      let from : 1 ≤ other / n = one_time other (other / n) n given times in
      rw times (first_common-least a n 1 (a - 1) (other / n) from (rw (← times) of_a));
}
  where
    one_time : (m q k : ℕ) → 1 ≤ m → m ≡ q * k → 1 ≤ q
    one_time m zero k given times = absurd (omega (arith, times))
    one_time m (suc q) k given times = omega arith
