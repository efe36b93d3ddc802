-- What the kept keys of a usage are.
use Rattle.std.specs.Prelude.{◌≡◌, false}
use Rattle.aes_cts.specs.BlockKeys.{bytes_of}
use Rattle.krb_hmac.specs.States.{IsKeyed}
use Rattle.krb_profile.specs.Sha1.{encryption_key, integrity_key}
use Rattle.krb_profile.specs.declared.sha1_keys.Sha1Keys.TheInside.{Inside}
use Rattle.sha1.specs.Sha1.{Holds, sha1}
use Rattle.sha2_profile.specs.Sha2.{is_sha2}

-- the keys that encrypt and make tags are those of the key and the usage
pub record AreDerived (k : Inside) : Type 0 where
  pub etype : is_sha2 k.key.etype ≡ false
  pub cipher : bytes_of k.cipher ≡ encryption_key k.key k.usage
  pub tags : IsKeyed Holds sha1 64 k.tags (integrity_key k.key k.usage)
