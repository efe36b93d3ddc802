-- What is printed, and what is left to print.
use Rattle.std.proofs.Common.{◌≡◌, ◌++◌, drop}
use Rattle.princ_name.specs.Names.{printed_text}
use Rattle.princ_name.proofs.printing.push_text.Given as goal

abbrev pub invariant-loop-byte : goal.invariant-loop-byte
invariant-loop-byte l = l.out.items ++ printed_text (drop l.byte-index l.text) ≡ l.fn.out.items ++ printed_text l.text
