use Rattle.std.proofs.Common.{arith}
use Rattle.krb_hmac.proofs.Masks.{one_more_byte, all_bytes}
use Rattle.krb_hmac.proofs.keyed.mask_all.Goals as goal

pub loop-byte-preserved : goal.loop-byte-preserved
loop-byte-preserved c = one_more_byte _ _ _ _ (omega arith) c.loop-byte.invariant

pub returns : goal.returns
returns c = all_bytes _ _ _ _ (omega arith) c.loop-byte.invariant
