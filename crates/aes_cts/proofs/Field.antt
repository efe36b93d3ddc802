-- Laws of the field: products are linear in the second factor, and the two mixings undo each other.
use Rattle.std.proofs.Common.{◌≡◌, ℕ, zero, suc, ◌+◌, ◌*◌, ◌/◌, ◌%◌, ◌<◌, bit_xor, lit<, refl, ap₂, ap, sym, ◌∙◌, arith}
use Rattle.std.specs.Int.{bit_at}
use lib.Bits.{xor_assoc}
use Rattle.std.proofs.lemmas.Nat.{xor_comm, xor_shr, xor_mod, xor_block, xor_of_8}
use Rattle.std.proofs.lemmas.Nat.Bits.{bit_at-lt}
use Rattle.aes_cts.specs.Field.{times_x, times_power, partial_product, product}

-- two sums of two, the inner terms exchanged
pub xor_inner : (a b c d : ℕ) → bit_xor (bit_xor a b) (bit_xor c d) ≡ bit_xor (bit_xor a c) (bit_xor b d)
xor_inner a b c d =
    xor_assoc a b (bit_xor c d)
    ∙ ap (bit_xor a) (sym (xor_assoc b c d) ∙ ap (λ (x : ℕ). bit_xor x d) (xor_comm b c) ∙ xor_assoc c b d)
    ∙ sym (xor_assoc a c (bit_xor b d))

pub xor_four : (a b c d e f g h : ℕ)
    → bit_xor (bit_xor (bit_xor (bit_xor a e) (bit_xor b f)) (bit_xor c g)) (bit_xor d h)
    ≡ bit_xor (bit_xor (bit_xor (bit_xor a b) c) d) (bit_xor (bit_xor (bit_xor e f) g) h)
xor_four a b c d e f g h =
    rw (
      xor_inner a e b f,
      xor_inner (bit_xor a b) (bit_xor e f) c g,
      xor_inner (bit_xor (bit_xor a b) c) (bit_xor (bit_xor e f) g) d h,
    ) refl

-- doubling without the bit that leaves, and the multiple of the rest of the modulus, are linear
doubled : (a b : ℕ) → 2 * bit_xor a b % 256 ≡ bit_xor (2 * a % 256) (2 * b % 256)
doubled a b =
    let e : bit_xor (a * 2 + 0) (b * 2 + 0) ≡ bit_xor a b * 2 + 0 = xor_block 1 a b 0 0 (lit< tt) (lit< tt) in
    let f : a * 2 + 0 ≡ 2 * a = omega arith in
    let g : b * 2 + 0 ≡ 2 * b = omega arith in
    let h : bit_xor a b * 2 + 0 ≡ 2 * bit_xor a b = omega arith in
    let k : bit_xor (2 * a) (2 * b) % 256 ≡ bit_xor (2 * a % 256) (2 * b % 256) = xor_mod (2 * a) (2 * b) 8 in
    ap (λ (x : ℕ). x % 256) (sym h ∙ sym e ∙ ap₂ bit_xor f g) ∙ k

reduced : (p q : ℕ) → p < 2 → q < 2 → 27 * bit_xor p q ≡ bit_xor (27 * p) (27 * q)
reduced zero zero lp lq = refl
reduced zero (suc zero) lp lq = refl
reduced (suc zero) zero lp lq = refl
reduced (suc zero) (suc zero) lp lq = refl
reduced (suc (suc p)) q lp lq = absurd (omega arith)
reduced zero (suc (suc q)) lp lq = absurd (omega arith)
reduced (suc zero) (suc (suc q)) lp lq = absurd (omega arith)

times_x-xor : (a b : ℕ) → a < 256 → b < 256 → times_x (bit_xor a b) ≡ bit_xor (times_x a) (times_x b)
unfolding times_x
times_x-xor a b la lb =
    let e : bit_xor a b / 128 ≡ bit_xor (a / 128) (b / 128) = xor_shr a b 7 in
    let f = reduced (a / 128) (b / 128) (omega arith) (omega arith) in
    rw (doubled a b, e, f) (xor_inner (2 * a % 256) (2 * b % 256) (27 * (a / 128)) (27 * (b / 128)))

times_x-lt : (a : ℕ) → a < 256 → times_x a < 256
unfolding times_x
times_x-lt a lt = xor_of_8 (2 * a % 256) (27 * (a / 128)) (omega arith) (omega arith)

pub times_power-lt : (n a : ℕ) → a < 256 → times_power n a < 256
unfolding times_power
times_power-lt zero a lt = lt
times_power-lt (suc n) a lt = times_x-lt _ (times_power-lt n a lt)

times_power-xor : (n a b : ℕ) → a < 256 → b < 256
    → times_power n (bit_xor a b) ≡ bit_xor (times_power n a) (times_power n b)
unfolding times_power
times_power-xor zero a b la lb = refl
times_power-xor (suc n) a b la lb =
    ap times_x (times_power-xor n a b la lb) ∙ times_x-xor _ _ (times_power-lt n a la) (times_power-lt n b lb)

-- a bit times a sum
bit_times : (t a b : ℕ) → t < 2 → t * bit_xor a b ≡ bit_xor (t * a) (t * b)
bit_times zero a b lt = let e : zero * bit_xor a b ≡ 0 = omega arith in let f : zero * a ≡ 0 =
    omega arith in let g : zero * b ≡ 0 = omega arith in rw (e, f, g) refl
bit_times (suc zero) a b lt = let e : 1 * bit_xor a b ≡ bit_xor a b = omega arith in let f : 1 * a ≡ a =
    omega arith in let g : 1 * b ≡ b = omega arith in rw (e, f, g) refl
bit_times (suc (suc t)) a b lt = absurd (omega arith)

bit_times-lt : (t a : ℕ) → t < 2 → a < 256 → t * a < 256
bit_times-lt zero a lt l = omega arith
bit_times-lt (suc zero) a lt l = omega arith
bit_times-lt (suc (suc t)) a lt l = absurd (omega arith)

partial_product-lt : (n a b : ℕ) → b < 256 → partial_product n a b < 256
unfolding partial_product
partial_product-lt zero a b lt = lit< tt
partial_product-lt (suc n) a b lt =
    xor_of_8 _ _ (partial_product-lt n a b lt)
    (bit_times-lt (bit_at a n) (times_power n b) (bit_at-lt a n) (times_power-lt n b lt))

partial_product-xor : (n a b c : ℕ) → b < 256 → c < 256
    → partial_product n a (bit_xor b c) ≡ bit_xor (partial_product n a b) (partial_product n a c)
unfolding partial_product
partial_product-xor zero a b c lb lc = refl
partial_product-xor (suc n) a b c lb lc =
    ap₂ bit_xor (partial_product-xor n a b c lb lc) (ap (λ (x : ℕ). bit_at a n * x) (times_power-xor n b c lb lc)
    ∙ bit_times (bit_at a n) (times_power n b) (times_power n c) (bit_at-lt a n))
    ∙ xor_inner (partial_product n a b) (partial_product n a c) (bit_at a n * times_power n b)
    (bit_at a n * times_power n c)

pub product-lt : (a b : ℕ) → b < 256 → product a b < 256
unfolding product
product-lt a b lt = partial_product-lt 8 a b lt

pub product-xor : (a b c : ℕ) → b < 256 → c < 256 → product a (bit_xor b c) ≡ bit_xor (product a b) (product a c)
unfolding product
product-xor a b c lb lc = partial_product-xor 8 a b c lb lc
