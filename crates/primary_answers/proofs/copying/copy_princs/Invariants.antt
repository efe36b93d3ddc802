use Rattle.std.proofs.Common.{◌≡◌, take}
use Rattle.primary_answers.proofs.copying.copy_princs.Given as goal

abbrev pub invariant-loop-princ : goal.invariant-loop-princ
invariant-loop-princ l = l.out.items ≡ take l.princ-index l.princs
