-- A key of either size.
use Rattle.std.specs.Prelude.{◌≡◌, ℕ, ◌<◌, ◌^◌, ◌⊎◌, List, length}
use Rattle.std.specs.List.{All}
use Rattle.aes_cts.specs.declared.block_key.BlockKey.{BlockKey}
use Rattle.aes_cts.specs.declared.block_key.BlockKey.TheVariants.{Aes128, Aes256}

-- the bytes of a key
abbrev pub bytes_of : BlockKey → List ℕ
bytes_of (Aes128 key) = key
bytes_of (Aes256 key) = key

-- each is a byte
abbrev pub AreBytes : List ℕ → Type 0
AreBytes xs = All (λ (x : ℕ). x < 2 ^ 8) xs

-- a key has 16 or 32 bytes
abbrev pub IsKeyLong : List ℕ → Type 0
IsKeyLong bytes = (length bytes ≡ 16) ⊎ (length bytes ≡ 32)
