-- Bytes as a number.
use Rattle.std.specs.Prelude.{ℕ, ◌+◌, ◌*◌, ◌^◌, List, [], ◌∷◌, length}

-- the number whose bytes these are, the highest first
unfoldable pub number : List ℕ → ℕ
number [] = 0
number (byte ∷ bytes) = byte * 2 ^ (8 * length bytes) + number bytes
