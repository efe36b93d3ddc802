-- The bytes that stand for a value.
use Rattle.std.specs.Prelude.{ℕ, ◌+◌, List, ◌++◌, length, take, drop, replicate}
use Rattle.std.specs.List.{flat_map}
use Rattle.byteorder.specs.Endian.{big_bytes, little_bytes}

-- a number in n bytes, the highest first
unfoldable pub big : ℕ → ℕ → List ℕ
big n x = big_bytes n x

-- a number in n bytes, the lowest first
unfoldable pub little : ℕ → ℕ → List ℕ
little n x = little_bytes n x

-- two bytes of length, and the bytes
unfoldable pub counted : List ℕ → List ℕ
counted bytes = big 2 (length bytes) ++ bytes

-- a count in width bytes, and the items
unfoldable pub counted_list : {A : Type 0} → ℕ → (A → List ℕ) → List A → List ℕ
counted_list width item xs = big width (length xs) ++ flat_map item xs

-- n zero bytes
unfoldable pub zeros : ℕ → List ℕ
zeros n = replicate n 0

-- old with these bytes at a place, where they fit
unfoldable pub put : ℕ → List ℕ → List ℕ → List ℕ
put at bytes old = take at old ++ (bytes ++ drop (at + length bytes) old)
