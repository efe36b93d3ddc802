use Rattle.std.proofs.Common.{◌∙◌, ap, subst, List, ℕ}
use Rattle.kdb_base.specs.Key.{Key}
use Rattle.krb_hmac.specs.States.{IsKeyed}
use Rattle.krb_profile.specs.Sha1.{integrity_key}
use Rattle.sha1.specs.Sha1.{Holds, sha1}
use Rattle.krb_profile.proofs.sha1_keys.integrity.Goals as goal

pub returns : goal.returns
unfolding integrity_key
returns c =
    subst (λ (b : List ℕ). IsKeyed Holds sha1 64 c.new.result b)
    (c.as_slice.ensures.value ∙ ap (λ (k : Key). k.bytes) c.usage_key-bytes.ensures) c.new.ensures
