use Rattle.std.proofs.Common.{ℕ, ◌≤◌, ◌∙◌, ap, ap₂, List, ◌∷◌, ◌++◌, codes, refl}
use Rattle.std.proofs.lemmas.List.{length-take-le}
use Rattle.kdb_base.specs.EtypeLaws.{key_fits}
use Rattle.sha2_profile.specs.Hmacs.{pbkdf2_of}
use Rattle.sha2_profile.specs.Sha2.{kdf, salt_name, string_key}
use Rattle.sha2_profile.proofs.derivation.string_to_key2.Goals as goal

pub returns : goal.returns
unfolding string_key
returns c =
    let etype = c.args.etype in
    let salt = salt_name etype ++ 0 ∷ c.args.salt.now in
    let fits : c.key_len.result ≤ 32 = rw c.key_len.ensures (key_fits etype) in
    let fits-2 : c.key_len-2.result ≤ 32 = rw c.key_len-2.ensures (key_fits etype) in
    let made = c.stretch.ensures ∙ ap (λ (n : ℕ). pbkdf2_of etype c.args.password.now salt c.args.count n)
    (length-take-le c.key_len.result _ fits ∙ c.key_len.ensures) in
    let bytes = c.kdf.ensures ∙ ap₂ (λ (m : List ℕ) (n : ℕ). kdf etype m (codes "kerberos") n) made
    (length-take-le c.key_len-2.result _ fits-2 ∙ c.key_len-2.ensures) in
    rw (c.from_bytes.ensures, bytes) refl
