-- What the kept keys of a usage are.
use Rattle.std.specs.Prelude.{◌≡◌, true}
use Rattle.aes_cts.specs.BlockKeys.{bytes_of}
use Rattle.sha2_profile.specs.Macs.{IsMac}
use Rattle.sha2_profile.specs.Sha2.{is_sha2, encryption_key, integrity_key}
use Rattle.sha2_profile.specs.declared.sealing.Sha2Keys.TheInside.{Inside}

-- the keys that encrypt and make tags are those of the key and the usage
pub record AreDerived (k : Inside) : Type 0 where
  pub etype : is_sha2 k.key.etype ≡ true
  pub cipher : bytes_of k.cipher ≡ encryption_key k.key k.usage
  pub tags : IsMac k.key.etype k.tags (integrity_key k.key k.usage)
