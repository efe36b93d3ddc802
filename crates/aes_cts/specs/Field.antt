-- Arithmetic in GF(2^8) and the S-box of AES (FIPS 197, sections 4 and 5.1.1). A byte is a number below 256, and
-- its bit i is the coefficient of x^i.
use Rattle.std.specs.Prelude.{ℕ, zero, suc, ◌+◌, ◌*◌, ◌/◌, ◌%◌, ◌^◌, ◌==◌, if◌then◌else◌, bit_xor}
use Rattle.std.specs.Int.{bit_at}

-- b times x, modulo x^8 + x^4 + x^3 + x + 1 (4.2, `xTimes`): where the highest bit leaves, the rest of the modulus,
-- 27, is subtracted
unfoldable pub times_x : ℕ → ℕ
times_x b = bit_xor (2 * b % 256) (27 * (b / 128))

-- b times x^n
unfoldable pub times_power : ℕ → ℕ → ℕ
times_power zero b = b
times_power (suc n) b = times_x (times_power n b)

-- the sum of a_i x^i b over the i below n
unfoldable pub partial_product : ℕ → ℕ → ℕ → ℕ
partial_product zero a b = 0
partial_product (suc n) a b = bit_xor (partial_product n a b) (bit_at a n * times_power n b)

-- a times b (4.2)
unfoldable pub product : ℕ → ℕ → ℕ
product a b = partial_product 8 a b

-- the first of the n numbers from b on whose product with a is 1, and 0 where none is
unfoldable pub inverse_from : ℕ → ℕ → ℕ → ℕ
inverse_from zero b a = 0
inverse_from (suc n) b a = if product a b == 1 then b else inverse_from n (b + 1) a

-- the inverse of a, and 0 for 0 (4.4 and 5.1.1, step 1)
unfoldable pub inverse : ℕ → ℕ
inverse a = inverse_from 256 0 a

-- bit i of the affine image of b (5.1.1, step 2), with the constant 99
unfoldable pub affine_bit : ℕ → ℕ → ℕ
affine_bit b i =
    (bit_at b i + bit_at b ((i + 4) % 8) + bit_at b ((i + 5) % 8) + bit_at b ((i + 6) % 8) + bit_at b ((i + 7) % 8)
    + bit_at 99 i) % 2

-- the number of the lowest n bits of the affine image
unfoldable pub affine_bits : ℕ → ℕ → ℕ
affine_bits zero b = 0
affine_bits (suc n) b = affine_bits n b + affine_bit b n * 2 ^ n

-- the S-box (5.1.1): the inverse, then the affine map
unfoldable pub sub_byte : ℕ → ℕ
sub_byte a = affine_bits 8 (inverse a)
