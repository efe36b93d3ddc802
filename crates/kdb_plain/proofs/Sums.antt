-- Sums of numbers that are told in 64 bits.
use Rattle.std.proofs.Common.{◌≡◌, ℕ, ◌+◌, arith}
use Rattle.std.specs.Prelude.{min}
use Rattle.kdb_plain.specs.Lengths.{in_64_bits}

-- the sum of what is told is told as the sum
pub added : (a b m n : ℕ) → a ≡ in_64_bits m → b ≡ in_64_bits n → min (a + b) 18446744073709551615 ≡ in_64_bits (m + n)
added a b m n x y = grind arith
