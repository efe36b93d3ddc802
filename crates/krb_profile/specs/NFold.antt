-- n-fold (RFC 3961, section 5.1), by numbers. The bits of a text are counted from 0 at the highest bit of its first
-- byte.
use Rattle.std.specs.Prelude.{ℕ, zero, suc, ◌+◌, ◌-◌, ◌*◌, ◌/◌, ◌%◌, ◌^◌}
use Rattle.std.specs.Prelude.{◌==◌, if◌then◌else◌, List, length, slice_index}
use Rattle.std.specs.Int.{bit_at, bytes_high_first}

-- bit i of a text
unfoldable pub bit_of : List ℕ → ℕ → ℕ
bit_of text i = bit_at (slice_index text (i / 8)) (7 - i % 8)

-- bit i of a text that is read over and over
unfoldable pub cyclic_bit : List ℕ → ℕ → ℕ
cyclic_bit text i = bit_of text (i % (8 * length text))

-- bit p of the copies of the text, one after another, of which copy k is turned right by 13 k bits: bit p - 13 k of
-- the text, modulo its 8 a bits. Modulo 8 a, 13 k (8 a - 1) is -13 k.
unfoldable pub copied_bit : List ℕ → ℕ → ℕ
copied_bit text p = cyclic_bit text (p + 13 * (p / (8 * length text)) * (8 * length text - 1))

-- the number whose n bits, the highest first, are f i, f (i + 1), ..
unfoldable pub number_of : (ℕ → ℕ) → ℕ → ℕ → ℕ
number_of f i zero = 0
number_of f i (suc n) = 2 * number_of f i n + f (i + n)

-- the first of k n, (k + 1) n, .. that a divides, or the one after the first `tries` of them
unfoldable pub first_common : ℕ → ℕ → ℕ → ℕ → ℕ
first_common a n k zero = k * n
first_common a n k (suc tries) = if k * n % a == 0 then k * n else first_common a n (suc k) tries

-- the least common multiple of two numbers from 1 on: the first multiple of n that a divides, which a n is at the
-- latest
unfoldable pub least_common_multiple : ℕ → ℕ → ℕ
least_common_multiple a n = first_common a n 1 (a - 1)

-- the sum of the first so many pieces of n bytes of the copies
unfoldable pub sum_of_pieces : List ℕ → ℕ → ℕ → ℕ
sum_of_pieces text n zero = 0
sum_of_pieces text n (suc many) = sum_of_pieces text n many + number_of (copied_bit text) (8 * (many * n)) (8 * n)

-- 0 for 0, and else the number from 1 to m that is congruent to s modulo m
unfoldable pub residue : ℕ → ℕ → ℕ
residue m zero = 0
residue m (suc s) = s % m + 1

-- the n bytes of the n-fold: the copies, as many bytes as the least common multiple of both lengths, are cut into
-- pieces of n bytes, which are added as numbers modulo 2^(8 n) - 1
unfoldable pub n_folded : List ℕ → ℕ → List ℕ
n_folded text n =
    bytes_high_first n (residue (2 ^ (8 * n) - 1) (sum_of_pieces text n (least_common_multiple (length text) n / n)))
