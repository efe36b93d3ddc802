-- A byte takes its width of the room.
use Rattle.std.proofs.Common.{arith}
use Rattle.princ_name.proofs.Costs.{text-drop, text-behind}
use Rattle.princ_name.proofs.limits.text_room.Goals as goal

pub returns-then-left-width-clause-none : goal.returns-then-left-width-clause-none
returns-then-left-width-clause-none c = λ _. omega (
  arith,
  text-drop c.args.text.now c.loop-byte.byte-index c.loop-byte-test.true,
  c.width-width.ensures,
  c.loop-byte.invariant,
  c.if-left-width.true,
)

pub loop-byte-preserved : goal.loop-byte-preserved
loop-byte-preserved c = omega (
  arith,
  text-drop c.args.text.now c.loop-byte.byte-index c.loop-byte-test.true,
  c.width-width.ensures,
  c.loop-byte.invariant,
  c.if-left-width.false,
)

pub returns-clause-fits : goal.returns-clause-fits
returns-clause-fits c =
    omega (arith, text-behind c.args.text.now c.loop-byte.byte-index c.loop-byte-test.false, c.loop-byte.invariant)
