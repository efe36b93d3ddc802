use Rattle.std.proofs.Common.{arith, length-set, ℕ}
use Rattle.krb_hmac.proofs.Masks.{one_more_xor, all_xored}
use Rattle.krb_hmac.proofs.rounds.xor_into.Goals as goal

pub loop-i-preserved : goal.loop-i-preserved
loop-i-preserved g c = (
  omega (arith, length-set {A = ℕ}),
  one_more_xor _ _ _ _ (omega arith) (omega arith) c.loop-i.invariant.1,
)

pub returns : goal.returns
returns g c = all_xored _ _ _ _ (omega arith) c.loop-i.invariant.1
