-- The kept keys of a usage, by the key's type.
use Rattle.std.specs.Prelude.{◌≡◌, true, false}
use Rattle.krb_profile.specs.declared.usages.Kept.{Kept}
use Rattle.krb_profile.specs.declared.usages.Kept.TheVariants.{Sha1, Sha2}
use Rattle.sha2_profile.specs.KeyUses.{KeyUse}
use Rattle.sha2_profile.specs.Sha2.{is_sha2}

-- the key and the usage
abbrev pub use_of : Kept → KeyUse
use_of (Sha1 u) = u
use_of (Sha2 u) = u

-- each stands with keys of its types
abbrev pub IsKept : Kept → Type 0
IsKept (Sha1 u) = is_sha2 u.key.etype ≡ false
IsKept (Sha2 u) = is_sha2 u.key.etype ≡ true
