use Rattle.std.proofs.Common.{◌≡◌, drop, false}
use Rattle.princ_name.specs.Printed.{prints}
use Rattle.princ_name.proofs.printed.prints.Given as goal

abbrev pub invariant-loop-byte : goal.invariant-loop-byte
invariant-loop-byte l =
    prints l.at.escape l.at.realm l.at.some l.at.left (drop l.byte-index l.text) ≡ prints false false false 15 l.fn.text
