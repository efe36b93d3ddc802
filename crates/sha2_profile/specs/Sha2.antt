-- The encryption types of RFC 8009.
use Rattle.std.specs.Prelude.{◌≡◌, ◌≢◌, ℕ, ◌+◌, ◌-◌, ◌*◌, ◌≤◌, Bool, true, false, List}
use Rattle.std.specs.Prelude.{[], ◌∷◌, ◌++◌, length, take, drop, replicate, codes}
use Rattle.std.specs.Int.{w32, to_be_bytes}
use Rattle.aes_cts.specs.BlockKeys.{AreBytes}
use Rattle.aes_cts.specs.Stealing.{cts}
use Rattle.kdb_base.specs.Etypes.{key_len, tag_len}
use Rattle.kdb_base.specs.Key.{Key}
use Rattle.kdb_base.specs.declared.keys.Etype.{Etype}
use Rattle.kdb_base.specs.declared.keys.Etype.TheVariants.{Aes128, Aes256, Aes128Sha2, Aes256Sha2}
use Rattle.sha2_profile.specs.Hmacs.{hmac_of, pbkdf2_of}

-- whether a type is one of RFC 8009
abbrev pub is_sha2 : Etype → Bool
is_sha2 Aes128 = false
is_sha2 Aes256 = false
is_sha2 Aes128Sha2 = true
is_sha2 Aes256Sha2 = true

-- the name by which a type's salts begin (RFC 8009, 4)
abbrev pub salt_name : Etype → List ℕ
salt_name Aes128 = []
salt_name Aes256 = []
salt_name Aes128Sha2 = codes "aes128-cts-hmac-sha256-128"
salt_name Aes256Sha2 = codes "aes256-cts-hmac-sha384-192"

-- KDF-HMAC-SHA2 (RFC 8009, 3), where no context is given: the first bytes of the HMAC over the number 1, the label,
-- a zero byte and how many bits are wanted
unfoldable pub kdf : Etype → List ℕ → List ℕ → ℕ → List ℕ
kdf etype key label len =
    take len (hmac_of etype key (to_be_bytes w32 1 ++ (label ++ 0 ∷ to_be_bytes w32 (8 * len))))

-- the key of a usage for one purpose (RFC 8009, 5)
unfoldable pub usage_key : Key → ℕ → ℕ → ℕ → List ℕ
usage_key key usage purpose len = kdf key.etype key.bytes (to_be_bytes w32 usage ++ purpose ∷ []) len

-- Ke, of a key's size (RFC 8009, 5)
unfoldable pub encryption_key : Key → ℕ → List ℕ
encryption_key key usage = usage_key key usage 0xaa (key_len key.etype)

-- Ki, which is as long as a tag (RFC 8009, 5)
unfoldable pub integrity_key : Key → ℕ → List ℕ
integrity_key key usage = usage_key key usage 0x55 (tag_len key.etype)

-- the tag of a cipher text: its HMAC under Ki behind the first vector, of 16 zeros (RFC 8009, 5)
unfoldable pub tag : Key → ℕ → List ℕ → List ℕ
tag key usage text = take (tag_len key.etype) (hmac_of key.etype (integrity_key key usage) (replicate 16 0 ++ text))

-- the cipher text of a confounder and a plain text, and its tag (RFC 8009, 5)
unfoldable pub sealed : Key → ℕ → List ℕ → List ℕ → List ℕ
sealed key usage confounder plain =
    let text = cts (encryption_key key usage) (confounder ++ plain) in
    text ++ tag key usage text

-- the key of a password and a salt in so many rounds (RFC 8009, 4)
unfoldable pub string_key : Etype → List ℕ → List ℕ → ℕ → List ℕ
string_key etype password salt count =
    let made = pbkdf2_of etype password (salt_name etype ++ 0 ∷ salt) count (key_len etype) in
    kdf etype made (codes "kerberos") (key_len etype)

-- the blob is what the plain text is sealed to, under some confounder
pub record IsSealed (key : Key) (usage : ℕ) (blob plain : List ℕ) : Type 0 where
  pub confounder : List ℕ
  pub whole : length confounder ≡ 16
  pub bytes : AreBytes (confounder ++ plain)
  pub long : length blob ≡ 16 + tag_len key.etype + length plain
  pub is : blob ≡ sealed key usage confounder plain

-- the blob is long enough, and its last bytes are not the tag of those before them
pub record IsMistagged (key : Key) (usage : ℕ) (blob : List ℕ) : Type 0 where
  pub long : 16 + tag_len key.etype ≤ length blob
  pub differs :
      let front = length blob - tag_len key.etype in
      tag key usage (take front blob) ≢ drop front blob
