use Rattle.std.proofs.Common.{arith}
use Rattle.princ_keys.specs.SizeLaws.{old_sets_short}
use Rattle.princ_keys.proofs.measures.sets_len.Goals as goal

pub measure_all-requires-clause-small : goal.measure_all-requires-clause-small
measure_all-requires-clause-small c = omega (arith, old_sets_short c.args.sets.now c.requires)

pub returns-clause-small : goal.returns-clause-small
returns-clause-small c = omega (arith, c.measure_all.ensures, old_sets_short c.args.sets.now c.requires)
