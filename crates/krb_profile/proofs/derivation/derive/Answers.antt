use Rattle.std.proofs.Common.{rules}
use Rattle.krb_profile.specs.Sha1.{derived}
use Rattle.krb_profile.proofs.derivation.derive.Goals as goal

pub returns : goal.returns
unfolding derived
returns c = search rules
