use Rattle.std.proofs.Common.{length, map}
use Rattle.stash_file.specs.Answers.{told}
use Rattle.stash_file.proofs.Steps.{IsReadKeytab}
use Rattle.stash_file.proofs.keytabs.read_told.Given as goal

abbrev pub invariant-loop-reader : goal.invariant-loop-reader
invariant-loop-reader l = IsReadKeytab l.bytes (map told l.entries.items) l.reader

abbrev pub decreases-loop-reader : goal.decreases-loop-reader
decreases-loop-reader l = length l.reader
