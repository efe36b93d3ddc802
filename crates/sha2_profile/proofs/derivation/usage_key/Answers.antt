use Rattle.std.proofs.Common.{[], refl}
use Rattle.std.proofs.lemmas.List.{set_at}
use Rattle.sha2_profile.specs.Sha2.{usage_key}
use Rattle.sha2_profile.proofs.derivation.usage_key.Goals as goal

pub returns : goal.returns
unfolding usage_key
returns c =
    let label = set_at c.copy_from_slice.new.self 0 [] c.args.purpose 4 c.copy_from_slice.ensures.len in
    rw (
      c.kdf.ensures,
      c.etype.ensures,
      c.as_slice.ensures.value,
      label,
      c.copy_from_slice.ensures.after,
      c.to_be_bytes.ensures,
    ) refl
