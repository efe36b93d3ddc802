-- The kept HMAC of a key.
use Rattle.std.specs.Prelude.{◌≡◌, ℕ, List}
use Rattle.sha2.specs.Hashers.{Holds256, Holds384}
use Rattle.sha2.specs.Sha256.{sha256}
use Rattle.sha2.specs.Sha512.{sha384}
use Rattle.kdb_base.specs.declared.keys.Etype.{Etype}
use Rattle.kdb_base.specs.declared.keys.Etype.TheVariants.{Aes128Sha2, Aes256Sha2}
use Rattle.krb_hmac.specs.States.{IsKeyed}
use Rattle.sha2_profile.specs.declared.macs.Mac.{Mac}
use Rattle.sha2_profile.specs.declared.macs.Mac.TheVariants.{Sha256, Sha384}

-- it is the HMAC of this type under this key
abbrev pub IsMac : Etype → Mac → List ℕ → Type 0
IsMac etype (Sha256 states) key = (etype ≡ Aes128Sha2) × IsKeyed Holds256 sha256 64 states key
IsMac etype (Sha384 states) key = (etype ≡ Aes256Sha2) × IsKeyed Holds384 sha384 128 states key
