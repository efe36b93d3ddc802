use Rattle.std.proofs.Common.{arith}
use Rattle.princ_keys.specs.SizeLaws.{old_keys_short}
use Rattle.princ_keys.proofs.measures.old_keys_len.Goals as goal

pub measure_all-requires-clause-small : goal.measure_all-requires-clause-small
measure_all-requires-clause-small c = omega (arith, old_keys_short c.args.keys.now c.requires.count c.requires.fit)

pub returns-clause-small : goal.returns-clause-small
returns-clause-small c =
    omega (arith, c.measure_all.ensures, old_keys_short c.args.keys.now c.requires.count c.requires.fit)
