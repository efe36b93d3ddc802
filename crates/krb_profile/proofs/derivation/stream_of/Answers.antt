use Rattle.std.proofs.Common.{◌≡◌, ◌∙◌, refl, replicate}
use Rattle.aes_cts.specs.BlockKeys.{bytes_of}
use Rattle.aes_cts.specs.Cipher.{cipher}
use Rattle.krb_profile.specs.NFold.{n_folded}
use Rattle.krb_profile.specs.Sha1.{stream}
use Rattle.krb_profile.proofs.Parts.{two_blocks, long_key}
use Rattle.krb_profile.proofs.derivation.stream_of.Goals as goal

pub new-cipher-requires : goal.new-cipher-requires
new-cipher-requires c = long_key c.args.key.now.etype c.as_slice.result.now c.as_slice.ensures.length

pub returns : goal.returns
unfolding stream
returns c =
    let key = c.args.key.now.bytes in
    let is_key : bytes_of c.new-cipher.result ≡ key = c.new-cipher.ensures ∙ c.as_slice.ensures.value in
    let folded = n_folded c.args.constant.now 16 in
    let first : c.encrypt_block.new.block ≡ cipher key folded =
    rw (is_key, c.n_fold.ensures) at c.encrypt_block.ensures in
    let second : c.encrypt_block-2.new.block ≡ cipher key (cipher key folded) =
    rw (is_key, first) at c.encrypt_block-2.ensures in
    two_blocks c.copy_from_slice.new.self c.copy_from_slice-2.new.self
    (replicate 16 0) c.copy_from_slice.ensures.len refl
    ∙ rw (c.copy_from_slice.ensures.after, c.copy_from_slice-2.ensures.after, second, first) refl
