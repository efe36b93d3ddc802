-- The lengths of tags.
use Rattle.std.proofs.Common.{◌≡◌, ℕ, List, length, refl}
use Rattle.sha1.specs.Sha1.{sha1, digest_bytes}
use Rattle.krb_hmac.specs.Hmac.{hmac, hmac_by}

pub length-hmac : (key text : List ℕ) → length (hmac key text) ≡ 20
unfolding hmac_by sha1 digest_bytes
length-hmac key text = refl
