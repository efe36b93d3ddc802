use Rattle.std.proofs.Common.{◌∙◌, refl}
use Rattle.krb_profile.proofs.Cyclic.{copied_byte-at}
use Rattle.krb_profile.proofs.folding.copied_byte.Goals as goal

pub returns : goal.returns
returns c = c.byte_from.ensures ∙ copied_byte-at _ _ _ c.requires.given refl
