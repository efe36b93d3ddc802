use Rattle.std.proofs.Common.{ℕ, ◌∙◌, ap₂, List, ◌∷◌, ◌++◌, length, take}
use Rattle.std.proofs.lemmas.List.{append-nil}
use Rattle.sha2_profile.specs.Hmacs.{hmac_of}
use Rattle.sha2_profile.specs.Sha2.{kdf}
use Rattle.sha2_profile.proofs.derivation.kdf.Goals as goal

pub returns : goal.returns
unfolding kdf
returns c =
    let key = c.args.key.now in
    let label = c.args.label.now in
    c.write.ensures c.args.etype key c.new.ensures
    ∙ ap₂ (λ (one end : List ℕ). take (length c.args.into.now) (hmac_of c.args.etype key (one ++ (label ++ 0 ∷ end))))
    c.to_be_bytes-2.ensures (append-nil c.copy_from_slice.new.self ∙ c.copy_from_slice.ensures.after
    ∙ c.to_be_bytes.ensures)
