use Rattle.std.proofs.Common.{◌∙◌, ap}
use Rattle.kdb_base.specs.Key.{Key}
use Rattle.krb_profile.specs.Sha1.{encryption_key}
use Rattle.krb_profile.proofs.Parts.{long_key}
use Rattle.krb_profile.proofs.sha1_keys.encryption.Goals as goal

pub new-requires : goal.new-requires
new-requires c = long_key c.usage_key-bytes.result.etype c.as_slice.result.now c.as_slice.ensures.length

pub returns : goal.returns
unfolding encryption_key
returns c = c.new.ensures ∙ c.as_slice.ensures.value ∙ ap (λ (k : Key). k.bytes) c.usage_key-bytes.ensures
