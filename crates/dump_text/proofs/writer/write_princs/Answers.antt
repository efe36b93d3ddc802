use Rattle.std.proofs.Common.{arith}
use Rattle.dump_text.specs.Dumps.{marked, princ_line}
use Rattle.dump_text.proofs.Parts.{holds_item, said_item}
use Rattle.dump_text.proofs.writer.write_princs.Goals as goal

pub returns-in-Err-clause-err : goal.returns-in-Err-clause-err
returns-in-Err-clause-err g c =
    said_item (λ p. marked c.args.mark.now (princ_line p)) c.args.out.now.items c.args.princs.now
    c.loop-princ.princ-index c.princ-item.result c.get.result.now _ _ _ _ c.get.ensures c.loop-princ-test.true
    c.princ-item.is
    c.loop-princ.invariant.0 c.in-Err.ensures.err

pub loop-princ-preserved : goal.loop-princ-preserved
loop-princ-preserved g c = (
  holds_item (λ p. marked c.args.mark.now (princ_line p)) c.args.out.now.items c.args.princs.now
      c.loop-princ.princ-index c.princ-item.result c.get.result.now _ _ _ _ _ c.get.ensures c.loop-princ-test.true
      c.princ-item.is
      c.loop-princ.invariant.0 c.in-Ok.ensures.ok,
  omega (arith, c.loop-princ.invariant.1, c.in-Ok.ensures.later),
)
