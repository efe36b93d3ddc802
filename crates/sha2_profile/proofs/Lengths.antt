-- The lengths of HMACs and tags.
use Rattle.std.proofs.Common.{◌≡◌, ℕ, ◌≤◌, List, length, refl, arith, replicate, ◌++◌}
use Rattle.std.proofs.lemmas.List.{length-take-le}
use Rattle.sha2.specs.Sha256.{sha256, digest_bytes as digest_bytes_256}
use Rattle.sha2.specs.Sha512.{sha384, digest_bytes as digest_bytes_512}
use Rattle.kdb_base.specs.Etypes.{tag_len}
use Rattle.kdb_base.specs.declared.keys.Etype.{Etype}
use Rattle.kdb_base.specs.declared.keys.Etype.TheVariants.{Aes128, Aes256, Aes128Sha2, Aes256Sha2}
use Rattle.krb_hmac.specs.Hmac.{hmac_by}
use Rattle.krb_hmac.proofs.Lengths.{length-hmac}
use Rattle.sha2_profile.specs.Hmacs.{hmac_of, hmac_len}
use Rattle.sha2_profile.specs.Sha2.{tag, integrity_key}
use Rattle.kdb_base.specs.Key.{Key}

pub length-hmac_of : (etype : Etype) (key text : List ℕ) → length (hmac_of etype key text) ≡ hmac_len etype
unfolding hmac_by sha256 digest_bytes_256 sha384 digest_bytes_512
length-hmac_of Aes128 key text = length-hmac key text
length-hmac_of Aes256 key text = length-hmac key text
length-hmac_of Aes128Sha2 key text = refl
length-hmac_of Aes256Sha2 key text = refl

-- no tag is longer than what it is taken from
pub tag_inside : (etype : Etype) → tag_len etype ≤ hmac_len etype
tag_inside Aes128 = omega arith
tag_inside Aes256 = omega arith
tag_inside Aes128Sha2 = omega arith
tag_inside Aes256Sha2 = omega arith

pub length-tag : (key : Key) (usage : ℕ) (text : List ℕ) → length (tag key usage text) ≡ tag_len key.etype
unfolding tag
length-tag key usage text =
    let digest = length-hmac_of key.etype (integrity_key key usage) (replicate 16 0 ++ text) in
    length-take-le (tag_len key.etype) (hmac_of key.etype (integrity_key key usage) (replicate 16 0 ++ text))
    (omega (arith, digest, tag_inside key.etype))
