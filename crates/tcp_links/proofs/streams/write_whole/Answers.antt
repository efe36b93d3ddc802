use Rattle.std.proofs.Common.{arith}
use Rattle.std.proofs.lemmas.List.{length-take, length-drop}
use Rattle.tcp_links.proofs.Fronts.{appends_rest, front_rest, on_err}
use Rattle.tcp_links.proofs.streams.write_whole.Goals as goal

pub returns-in_err-at-clause-part : goal.returns-in_err-at-clause-part
returns-in_err-at-clause-part g c =
    on_err c.from_residual.result _
    (front_rest _ _ _ c.args.bytes.now c.loop-at.at c.loop-at.invariant.1 c.in_err-at.ensures.part)

pub loop-at-preserved : goal.loop-at-preserved
loop-at-preserved g c = (
  grind (arith, c.in_ok-at.ensures.bound, c.loop-at.invariant.0, length-take, length-drop),
  appends_rest _ _ _ c.args.bytes.now c.loop-at.at c.in_ok-at.field-0 c.loop-at.invariant.1 c.in_ok-at.ensures.got,
)
