use Rattle.std.proofs.Common.{arith}
use Rattle.princ_keys.specs.SizeLaws.{keys_short}
use Rattle.princ_keys.proofs.measures.keys_len.Goals as goal

pub measure_all-requires-clause-small : goal.measure_all-requires-clause-small
measure_all-requires-clause-small c = omega (arith, keys_short c.args.keys.now c.requires)

pub returns-clause-small : goal.returns-clause-small
returns-clause-small c = omega (arith, c.measure_all.ensures, keys_short c.args.keys.now c.requires)
