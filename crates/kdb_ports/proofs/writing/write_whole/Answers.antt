use Rattle.std.proofs.Common.{arith}
use Rattle.std.proofs.lemmas.List.{length-take, length-drop}
use Rattle.kdb_ports.proofs.Told.{after_told-rest}
use Rattle.kdb_ports.proofs.writing.write_whole.Goals as goal

pub loop-at-preserved : goal.loop-at-preserved
loop-at-preserved g c = (
  grind (arith, c.in_ok-at.ensures.bound, c.loop-at.invariant.0, length-take, length-drop),
  after_told-rest _ _ _ c.args.bytes.now c.loop-at.at c.in_ok-at.field-0 c.loop-at.invariant.1 c.in_ok-at.ensures.bytes,
  omega (arith, c.in_ok-at.ensures.cause.later, c.loop-at.invariant.2),
)
