-- A component takes its printed text and a sign of the room.
use Rattle.std.proofs.Common.{arith}
use Rattle.princ_name.proofs.Costs.{cost-item, cost-behind}
use Rattle.princ_name.proofs.limits.parts_room.Goals as goal

pub returns-then-behind-eq0-clause-none : goal.returns-then-behind-eq0-clause-none
returns-then-behind-eq0-clause-none c = λ _.
    omega (
      arith,
      cost-item c.args.parts.now c.loop-part.part-index c.part-item.result c.as_slice.result.now c.loop-part-test.true
          c.part-item.is c.as_slice.ensures,
      c.in-Some.ensures.fits,
      c.if-behind-eq0.true,
      c.loop-part.invariant,
    )

pub returns-in-None-clause-none : goal.returns-in-None-clause-none
returns-in-None-clause-none c = λ none.
    omega (
      arith,
      cost-item c.args.parts.now c.loop-part.part-index c.part-item.result c.as_slice.result.now c.loop-part-test.true
          c.part-item.is c.as_slice.ensures,
      c.in-None.ensures.none none,
      c.loop-part.invariant,
    )

pub loop-part-preserved : goal.loop-part-preserved
loop-part-preserved c =
    omega (
      arith,
      cost-item c.args.parts.now c.loop-part.part-index c.part-item.result c.as_slice.result.now c.loop-part-test.true
          c.part-item.is c.as_slice.ensures,
      c.in-Some.ensures.fits,
      c.if-behind-eq0.false,
      c.loop-part.invariant,
    )

pub returns-clause-fits : goal.returns-clause-fits
returns-clause-fits c =
    omega (arith, cost-behind c.args.parts.now c.loop-part.part-index c.loop-part-test.false, c.loop-part.invariant)
