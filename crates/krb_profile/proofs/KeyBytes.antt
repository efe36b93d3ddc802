-- The keys that encrypt are keys of AES.
use Rattle.std.proofs.Common.{◌≡◌, ℕ, zero, suc, ◌≤◌, true, List, ◌++◌, length, refl, length-append, arith}
use Rattle.std.specs.Int.{bytes_high_first}
use Rattle.std.proofs.lemmas.List.{length-take-le}
use Rattle.aes_cts.specs.BlockKeys.{IsKeyLong}
use Rattle.aes_cts.specs.Cipher.{cipher}
use Rattle.aes_cts.proofs.Lengths.{length-cipher_at}
use Rattle.aes_cts.proofs.OneText.{bytes_of_block}
use Rattle.aes_cts.proofs.Sums.{AreBytes, AreBytes-append, AreBytes-take}
use Rattle.kdb_base.specs.EtypeLaws.{key_fits}
use Rattle.kdb_base.specs.Etypes.{key_len}
use Rattle.kdb_base.specs.Key.{Key}
use Rattle.kdb_base.specs.declared.keys.Etype.{Etype}
use Rattle.kdb_base.specs.declared.keys.Etype.TheVariants.{Aes128, Aes256, Aes128Sha2, Aes256Sha2}
use Rattle.krb_hmac.specs.Hmac.{hmac_by}
use Rattle.sha2.specs.Sha256.{sha256, digest_bytes as digest_bytes_256}
use Rattle.sha2.specs.Sha512.{sha384, digest_bytes as digest_bytes_512}
use Rattle.sha2_profile.specs.Hmacs.{hmac_of, hmac_len}
use Rattle.sha2_profile.specs.Sha2.{is_sha2, kdf}
use Rattle.sha2_profile.proofs.Lengths.{length-hmac_of}
use Rattle.krb_profile.specs.NFold.{n_folded}
use Rattle.krb_profile.specs.Sha1.{stream, derived}
use Rattle.krb_profile.proofs.Parts.{long_key}

digest_256 : (h : List ℕ) (n : ℕ) → AreBytes (digest_bytes_256 h n)
unfolding digest_bytes_256
digest_256 h zero = tt
digest_256 h (suc n) =
    AreBytes-append _ _ (digest_256 h n) (omega arith, (omega arith, (omega arith, (omega arith, tt))))

digest_512 : (h : List ℕ) (n : ℕ) → AreBytes (digest_bytes_512 h n)
unfolding digest_bytes_512
digest_512 h zero = tt
digest_512 h (suc n) =
    AreBytes-append _ _ (digest_512 h n) (
      omega arith,
      (omega arith, (omega arith, (omega arith, (omega arith, (omega arith, (omega arith, (omega arith, tt))))))),
    )

bytes-hmac : (etype : Etype) (key text : List ℕ) → is_sha2 etype ≡ true → AreBytes (hmac_of etype key text)
unfolding hmac_by sha256 sha384
bytes-hmac Aes128 key text other = absurd cc
bytes-hmac Aes256 key text other = absurd cc
bytes-hmac Aes128Sha2 key text is = digest_256 _ 8
bytes-hmac Aes256Sha2 key text is = AreBytes-take 48 _ (digest_512 _ 8)

key_inside : (etype : Etype) → is_sha2 etype ≡ true → key_len etype ≤ hmac_len etype
key_inside Aes128 other = omega arith
key_inside Aes256 other = absurd cc
key_inside Aes128Sha2 is = omega arith
key_inside Aes256Sha2 is = omega arith

-- a key that KDF-HMAC-SHA2 gives
pub kdf_long : (etype : Etype) (key label : List ℕ) → is_sha2 etype ≡ true
    → IsKeyLong (kdf etype key label (key_len etype))
unfolding kdf
kdf_long etype key label is =
    long_key etype _ (length-take-le (key_len etype) _ (omega (arith, length-hmac_of etype key, key_inside etype is)))

pub kdf_bytes : (etype : Etype) (key label : List ℕ) (len : ℕ) → is_sha2 etype ≡ true
    → AreBytes (kdf etype key label len)
unfolding kdf
kdf_bytes etype key label len is = AreBytes-take len _ (bytes-hmac etype key _ is)

-- a key that DK gives
high_first : (k n : ℕ) → AreBytes (bytes_high_first k n)
high_first zero n = tt
high_first (suc zero) n = (omega arith, tt)
high_first (suc (suc k)) n = (omega arith, high_first (suc k) n)

folded_bytes : (constant : List ℕ) → AreBytes (n_folded constant 16)
unfolding n_folded
folded_bytes constant = high_first 16 _

folded_long : (constant : List ℕ) → length (n_folded constant 16) ≡ 16
unfolding n_folded
folded_long constant = refl

pub derived_long : (key : Key) (constant : List ℕ) → length key.bytes ≡ key_len key.etype
    → IsKeyLong (derived key constant)
unfolding derived stream
derived_long key constant long =
    let is_long = long_key key.etype key.bytes long in
    let first = cipher key.bytes (n_folded constant 16) in
    let whole : length (first ++ cipher key.bytes first) ≡ 32 =
    omega (
      arith,
      length-append first (cipher key.bytes first),
      length-cipher_at key.bytes (n_folded constant 16) is_long,
      length-cipher_at key.bytes first is_long,
    ) in
    long_key key.etype _
    (length-take-le (key_len key.etype) (first ++ cipher key.bytes first) (omega (arith, whole, key_fits key.etype)))

pub derived_bytes : (key : Key) (constant : List ℕ) → length key.bytes ≡ key_len key.etype → AreBytes key.bytes
    → AreBytes (derived key constant)
unfolding derived stream
derived_bytes key constant long bytes =
    let is_long = long_key key.etype key.bytes long in
    let folded = n_folded constant 16 in
    let first = bytes_of_block key.bytes is_long bytes folded (folded_long constant) (folded_bytes constant) in
    let second = bytes_of_block key.bytes is_long bytes (cipher key.bytes folded)
    (length-cipher_at key.bytes folded is_long) first in
    AreBytes-take (key_len key.etype) _ (AreBytes-append _ _ first second)
