-- Lemmas on the least common multiple.
use Rattle.std.proofs.Common.{◌≡◌, ◌≢◌, ℕ, zero, suc, ◌+◌, ◌-◌, ◌*◌, ◌%◌, ◌<◌}
use Rattle.std.proofs.Common.{◌≤◌, ◌∙◌, ap, sym, refl, inl, inr, add-one, arith}
use Rattle.std.proofs.lemmas.Bool.{cases_lt, ne_eqb}
use Rattle.std.specs.Prelude.{◌==◌, false}
use Rattle.std.proofs.Math.Nat.{mul-mod_right}
use Rattle.krb_profile.specs.NFold.{first_common}

-- the search ends at a common multiple
pub first_common-here : (a n k tries : ℕ) → k * n % a ≡ 0 → first_common a n k tries ≡ k * n
unfolding first_common
first_common-here a n k zero common = refl
first_common-here a n k (suc tries) common = rw common refl

-- and goes on before it
first_common-next : (a n k tries : ℕ) → k * n % a ≢ 0 → first_common a n k (suc tries) ≡ first_common a n (k + 1) tries
unfolding first_common
first_common-next a n k tries other =
    let test : (k * n % a == 0) ≡ false = ne_eqb (k * n % a) 0 other in
    rw test (ap (λ (m : ℕ). first_common a n m tries) (sym (add-one k)))

pub not_last : (a n k : ℕ) → k ≤ a → k * n % a ≢ 0 → k < a
not_last a n k within other = elim (cases_lt k a) [
  | inl before ↦ before
  | inr after ↦
      let same : k ≡ a = omega arith in
      absurd (other (rw same (mul-mod_right a n)))
]

pub first_common-later : (a n k : ℕ) → k < a → k * n % a ≢ 0
    → first_common a n k (a - k) ≡ first_common a n (k + 1) (a - (k + 1))
first_common-later a n k before other =
    let more : a - k ≡ suc (a - (k + 1)) = omega arith in
    ap (first_common a n k) more ∙ first_common-next a n k (a - (k + 1)) other
