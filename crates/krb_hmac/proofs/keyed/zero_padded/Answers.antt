use Rattle.krb_hmac.proofs.KeyBlocks.{over_zeros}
use Rattle.krb_hmac.proofs.keyed.zero_padded.Goals as goal

pub returns : goal.returns
returns c = over_zeros _ _ c.args.len 128 c.copy_from_slice.ensures.after c.requires.fits c.requires.short
