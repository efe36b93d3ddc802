-- Lemmas on texts in parts.
use Rattle.std.proofs.Common.{◌≡◌, ℕ, ◌≤◌, List, ◌++◌, refl, length, take, drop, false, inl, inr, arith}
use Rattle.aes_cts.specs.BlockKeys.{IsKeyLong}
use Rattle.kdb_base.specs.Etypes.{key_len, tag_len}
use Rattle.kdb_base.specs.declared.keys.Etype.{Etype}
use Rattle.kdb_base.specs.declared.keys.Etype.TheVariants.{Aes128, Aes256, Aes128Sha2, Aes256Sha2}
use Rattle.sha2_profile.specs.Sha2.{is_sha2}
use Rattle.std.proofs.lemmas.List.{take_at, drop_at, drop_all, append-nil}

-- a second block written behind the first
pub two_blocks : (first second zeros : List ℕ) → length first ≡ 16 → length zeros ≡ 16 →
    take 16 (first ++ zeros) ++ (second ++ drop 16 (drop 16 (first ++ zeros))) ≡ first ++ second
two_blocks first second zeros first_len zeros_len =
    let all : length zeros ≤ 16 = omega arith in
    rw (take_at first zeros 16 first_len, drop_at first zeros 16 first_len, drop_all 16 zeros all, append-nil) refl

-- a key of any type is one of AES
pub long_key : (etype : Etype) (bytes : List ℕ) → length bytes ≡ key_len etype → IsKeyLong bytes
long_key Aes128 bytes long = inl long
long_key Aes256 bytes long = inr long
long_key Aes128Sha2 bytes long = inl long
long_key Aes256Sha2 bytes long = inr long

-- a tag of the types of RFC 3962
pub tag_is_twelve : (etype : Etype) → is_sha2 etype ≡ false → tag_len etype ≡ 12
tag_is_twelve Aes128 other = refl
tag_is_twelve Aes256 other = refl
tag_is_twelve Aes128Sha2 other = absurd cc
tag_is_twelve Aes256Sha2 other = absurd cc
