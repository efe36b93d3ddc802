-- Lemmas on the number of some bits.
use Rattle.std.proofs.Common.{◌≡◌, ℕ, zero, suc, ◌+◌, ◌-◌, ◌*◌, ◌/◌, ◌%◌, ◌^◌}
use Rattle.std.proofs.Common.{◌<◌, ◌∙◌, ap, refl, add-one, add-zero, lit<, arith}
use Rattle.std.specs.Int.{bit_at}
use Rattle.std.proofs.Math.Nat.{pow-suc, add-suc}
use Rattle.std.proofs.lemmas.Nat.{mod-pow-add}
use Rattle.std.proofs.lemmas.Nat.Bits.{bit_at-suc, bit_at_lowest}
use Rattle.krb_profile.specs.NFold.{number_of}

-- equal bits give equal numbers
pub number_of-same : (f g : ℕ → ℕ) (i j n : ℕ) → ((e : ℕ) → e < n → f (i + e) ≡ g (j + e))
    → number_of f i n ≡ number_of g j n
unfolding number_of
number_of-same f g i j zero same = refl
number_of-same f g i j (suc n) same =
    let front = number_of-same f g i j n (λ e below. same e (omega arith)) in
    let last : f (i + n) ≡ g (j + n) = same n (omega arith) in
    rw (front, last) refl

-- the lowest n bits of a number
pub number_of-bit_at : (f : ℕ → ℕ) (v i n : ℕ) → ((e : ℕ) → e < n → f (i + e) ≡ bit_at v (n - 1 - e))
    → number_of f i n ≡ v % 2 ^ n
unfolding number_of
number_of-bit_at f v i zero same = omega arith
number_of-bit_at f v i (suc n) same =
    let above : (e : ℕ) → e < n → f (i + e) ≡ bit_at (v / 2) (n - 1 - e) = λ e below.
    let place : suc n - 1 - e ≡ suc (n - 1 - e) = omega arith in
    same e (omega arith) ∙ ap (bit_at v) place ∙ bit_at-suc v (n - 1 - e) in
    let front = number_of-bit_at f (v / 2) i n above in
    let lowest : suc n - 1 - n ≡ 0 = omega arith in
    let last : f (i + n) ≡ v % 2 = same n (omega arith) ∙ ap (bit_at v) lowest ∙ bit_at_lowest v in
    let split : v % 2 ^ suc n ≡ (v / 2 % 2 ^ n) * 2 + v % 2 = rw add-one at (mod-pow-add v n 1) in
    omega (arith, front, last, split)

-- the bits in two parts
pub number_of-split : (f : ℕ → ℕ) (i a b : ℕ) → number_of f i (a + b) ≡ number_of f i a * 2 ^ b + number_of f (i + a) b
unfolding number_of
number_of-split f i a zero = rw (add-zero a) (omega arith)
number_of-split f i a (suc b) =
    let front = number_of-split f i a b in
    let place : i + (a + b) ≡ i + a + b = omega arith in
    let last = ap f place in
    let whole : number_of f i (a + suc b) ≡ 2 * number_of f i (a + b) + f (i + (a + b)) =
    ap (number_of f i) (add-suc a b) in
    rw (pow-suc 2 b) (omega (arith, whole, front, last))

-- n bits make a number below 2^n
pub number_of-lt : (f : ℕ → ℕ) (i n : ℕ) → ((k : ℕ) → f k < 2) → number_of f i n < 2 ^ n
unfolding number_of
number_of-lt f i zero bits = lit< tt
number_of-lt f i (suc n) bits =
    let front = number_of-lt f i n bits in
    let last = bits (i + n) in
    rw (pow-suc 2 n) (omega (arith, front, last))
