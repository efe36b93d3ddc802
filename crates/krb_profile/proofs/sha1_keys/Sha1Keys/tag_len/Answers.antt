use Rattle.std.proofs.Common.{◌≡◌, ◌∙◌, ap, subst, false}
use Rattle.kdb_base.specs.Etypes.{tag_len}
use Rattle.sha2_profile.specs.KeyUses.{KeyUse}
use Rattle.sha2_profile.specs.Sha2.{is_sha2}
use Rattle.krb_profile.proofs.Parts.{tag_is_twelve}
use Rattle.krb_profile.proofs.sha1_keys.Sha1Keys.tag_len.Goals as goal

pub returns-clause-twelve : goal.returns-clause-twelve
returns-clause-twelve c =
    let len : c.tag_len.result ≡ tag_len c.self.inside.key.etype = c.tag_len.ensures ∙ ap tag_len c.etype.ensures in
    len ∙ tag_is_twelve c.self.inside.key.etype c.self.invariant.etype

pub returns-clause-kind : goal.returns-clause-kind
returns-clause-kind c = subst (λ (v : KeyUse). is_sha2 v.key.etype ≡ false) c.self.view_is c.self.invariant.etype
