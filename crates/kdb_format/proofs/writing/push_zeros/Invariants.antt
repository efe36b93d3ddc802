use Rattle.std.proofs.Common.{◌≡◌, ◌++◌}
use Rattle.kdb_format.specs.Spellings.{zeros}
use Rattle.kdb_format.proofs.writing.push_zeros.Given as goal

abbrev pub invariant-loop : goal.invariant-loop
invariant-loop l = l.out.items ≡ l.fn.out.items ++ zeros l.counter
