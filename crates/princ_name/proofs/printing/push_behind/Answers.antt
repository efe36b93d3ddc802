-- One component more is printed.
use Rattle.princ_name.proofs.PrintedForms.{behind-more, behind-done}
use Rattle.princ_name.proofs.printing.push_behind.Goals as goal

pub loop-part-preserved : goal.loop-part-preserved
loop-part-preserved c =
    behind-more c.args.parts.now c.loop-part.out.items c.push.new.out.items c.push_text.new.out.items _
    c.part-item.result c.as_slice.result.now c.loop-part.part-index
    c.loop-part-test.true c.part-item.is c.as_slice.ensures c.in_ok-push.ensures c.in_ok-push_text.ensures
    c.loop-part.invariant

pub returns : goal.returns
returns c = behind-done c.args.parts.now c.loop-part.out.items _ c.loop-part.part-index c.loop-part-test.false
    c.loop-part.invariant
