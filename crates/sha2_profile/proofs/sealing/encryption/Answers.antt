use Rattle.std.proofs.Common.{◌≡◌, ℕ, ◌≤◌, ◌∙◌, ap}
use Rattle.std.proofs.lemmas.List.{length-take-le}
use Rattle.kdb_base.specs.Etypes.{key_len}
use Rattle.kdb_base.specs.EtypeLaws.{key_fits}
use Rattle.sha2_profile.specs.Sha2.{encryption_key, usage_key}
use Rattle.sha2_profile.proofs.sealing.encryption.Goals as goal

pub returns : goal.returns
unfolding encryption_key
returns c =
    let key = c.args.key.now in
    let len : c.key_len.result ≡ key_len key.etype = c.key_len.ensures ∙ ap key_len c.etype.ensures in
    let fits : c.key_len.result ≤ 32 = rw len (key_fits key.etype) in
    c.new.ensures ∙ c.usage_key.ensures
    ∙ ap (λ (n : ℕ). usage_key key c.args.usage 0xaa n) (length-take-le c.key_len.result _ fits ∙ len)
