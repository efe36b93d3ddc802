use Rattle.std.proofs.Common.{[], refl}
use Rattle.std.proofs.lemmas.List.{set_at}
use Rattle.krb_profile.specs.Sha1.{usage_key}
use Rattle.krb_profile.proofs.sha1_keys.usage_key.Goals as goal

pub returns : goal.returns
unfolding usage_key
returns c =
    let constant = set_at c.copy_from_slice.new.self 0 [] c.args.purpose 4 c.copy_from_slice.ensures.len in
    rw (c.derive.ensures, constant, c.copy_from_slice.ensures.after, c.to_be_bytes.ensures) refl
