use Rattle.std.proofs.Common.{◌≡◌, ◌∙◌, ap, refl}
use Rattle.std.proofs.lemmas.List.{append-nil}
use Rattle.krb_hmac.specs.Hmac.{hmac}
use Rattle.krb_profile.specs.Sha1.{integrity_key, tag}
use Rattle.sha2_profile.specs.KeyUses.{KeyUse}
use Rattle.krb_profile.proofs.sha1_keys.Sha1Keys.tag.Goals as goal

pub returns : goal.returns
unfolding tag
returns c =
    let k = c.self.inside in
    let key_is : k.key ≡ c.args.self.now.key = ap (λ (u : KeyUse). u.key) c.self.view_is in
    let usage_is : k.usage ≡ c.args.self.now.usage = ap (λ (u : KeyUse). u.usage) c.self.view_is in
    let made : c.tag.result ≡ hmac (integrity_key k.key k.usage) c.args.text.now =
    c.tag.ensures (integrity_key k.key k.usage) c.self.invariant.tags
    ∙ ap (hmac (integrity_key k.key k.usage)) (append-nil c.args.text.now) in
    rw (← key_is, ← usage_is, made) refl
