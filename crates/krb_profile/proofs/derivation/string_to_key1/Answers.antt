use Rattle.std.proofs.Common.{◌≡◌, ℕ, ◌≤◌, ◌∙◌, ap, refl}
use Rattle.std.proofs.lemmas.List.{length-take-le}
use Rattle.kdb_base.specs.Etypes.{key_len}
use Rattle.kdb_base.specs.EtypeLaws.{key_fits}
use Rattle.krb_hmac.specs.Pbkdf2.{pbkdf2}
use Rattle.krb_profile.specs.Sha1.{string_key}
use Rattle.krb_profile.proofs.derivation.string_to_key1.Goals as goal

pub returns : goal.returns
unfolding string_key
returns c =
    let etype = c.args.etype in
    let fits : c.key_len.result ≤ 32 = rw c.key_len.ensures (key_fits etype) in
    let bytes : c.pbkdf2.new.into ≡ pbkdf2 c.args.password.now c.args.salt.now c.args.count (key_len etype) =
    c.pbkdf2.ensures ∙ ap (λ (n : ℕ). pbkdf2 c.args.password.now c.args.salt.now c.args.count n)
    (length-take-le c.key_len.result _ fits ∙ c.key_len.ensures) in
    rw (c.derive.ensures, c.from_bytes.ensures, bytes) refl
