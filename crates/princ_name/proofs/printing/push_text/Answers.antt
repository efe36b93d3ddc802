-- One byte more is printed.
use Rattle.princ_name.proofs.PrintedForms.{text-more, text-done}
use Rattle.princ_name.proofs.printing.push_text.Goals as goal

pub loop-byte-preserved : goal.loop-byte-preserved
loop-byte-preserved c = text-more c.args.text.now c.loop-byte.out.items c.push_byte.new.out.items _
    c.loop-byte.byte-index c.loop-byte-test.true c.in_ok-push_byte.ensures c.loop-byte.invariant

pub returns : goal.returns
returns c = text-done c.args.text.now c.loop-byte.out.items _ c.loop-byte.byte-index c.loop-byte-test.false
    c.loop-byte.invariant
