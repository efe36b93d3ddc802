-- HMAC (RFC 2104) over the hash functions of SHA-2 (FIPS 180-4), and the HMAC of each encryption type.
use Rattle.std.specs.Prelude.{ℕ, List}
use Rattle.sha2.specs.Sha256.{sha256}
use Rattle.sha2.specs.Sha512.{sha384}
use Rattle.kdb_base.specs.declared.keys.Etype.{Etype}
use Rattle.kdb_base.specs.declared.keys.Etype.TheVariants.{Aes128, Aes256, Aes128Sha2, Aes256Sha2}
use Rattle.krb_hmac.specs.Hmac.{hmac_by, hmac as hmac_sha1}
use Rattle.krb_hmac.specs.Pbkdf2.{pbkdf2_by}

-- HMAC-SHA256
abbrev pub hmac_sha256 : List ℕ → List ℕ → List ℕ
hmac_sha256 = hmac_by sha256 64

-- HMAC-SHA384
abbrev pub hmac_sha384 : List ℕ → List ℕ → List ℕ
hmac_sha384 = hmac_by sha384 128

-- a type's HMAC (RFC 3962, 6; RFC 8009, 5)
abbrev pub hmac_of : Etype → List ℕ → List ℕ → List ℕ
hmac_of Aes128 = hmac_sha1
hmac_of Aes256 = hmac_sha1
hmac_of Aes128Sha2 = hmac_sha256
hmac_of Aes256Sha2 = hmac_sha384

-- the bytes that it gives
abbrev pub hmac_len : Etype → ℕ
hmac_len Aes128 = 20
hmac_len Aes256 = 20
hmac_len Aes128Sha2 = 32
hmac_len Aes256Sha2 = 48

-- PBKDF2 (RFC 2898, 5.2) with it
abbrev pub pbkdf2_of : Etype → List ℕ → List ℕ → ℕ → ℕ → List ℕ
pbkdf2_of etype = pbkdf2_by (hmac_of etype) (hmac_len etype)
