use Rattle.std.proofs.Common.{length}
use Rattle.stash_file.proofs.Steps.{IsRead}
use Rattle.stash_file.proofs.reading.read_keys.Given as goal

abbrev pub invariant-loop-reader : goal.invariant-loop-reader
invariant-loop-reader l = IsRead l.bytes l.keys.items l.reader

abbrev pub decreases-loop-reader : goal.decreases-loop-reader
decreases-loop-reader l = length l.reader
