use Rattle.std.proofs.Common.{◌≡◌, ◌≤◌, ◌∙◌, ap}
use Rattle.std.proofs.lemmas.List.{length-take-le}
use Rattle.kdb_base.specs.Etypes.{tag_len}
use Rattle.kdb_base.specs.EtypeLaws.{tag_fits}
use Rattle.sha2_profile.specs.KeyUses.{KeyUse}
use Rattle.sha2_profile.specs.Sha2.{integrity_key}
use Rattle.sha2_profile.proofs.Unsealing.{tag_written}
use Rattle.sha2_profile.proofs.sealing.Sha2Keys.tag.Goals as goal

pub returns : goal.returns
returns c =
    let k = c.self.inside in
    let key_is : k.key ≡ c.args.self.now.key = ap (λ (u : KeyUse). u.key) c.self.view_is in
    let usage_is : k.usage ≡ c.args.self.now.usage = ap (λ (u : KeyUse). u.usage) c.self.view_is in
    let len : c.tag_len.result ≡ tag_len k.key.etype = c.tag_len.ensures ∙ ap tag_len c.etype.ensures in
    let fits : c.tag_len.result ≤ 24 = rw len (tag_fits k.key.etype) in
    rw (← key_is, ← usage_is)
    (tag_written k.key k.usage _ c.write.new.into _ c.args.text.now c.write.auto.into
    (c.write.ensures k.key.etype (integrity_key k.key k.usage) c.self.invariant.tags)
    (length-take-le c.tag_len.result _ fits ∙ len))
