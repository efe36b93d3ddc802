-- What is printed, and what is left to print.
use Rattle.std.proofs.Common.{◌≡◌, ◌++◌, drop}
use Rattle.princ_name.specs.Names.{behind_parts}
use Rattle.princ_name.proofs.printing.push_behind.Given as goal

abbrev pub invariant-loop-part : goal.invariant-loop-part
invariant-loop-part l = l.out.items ++ behind_parts (drop l.part-index l.parts) ≡ l.fn.out.items ++ behind_parts l.parts
