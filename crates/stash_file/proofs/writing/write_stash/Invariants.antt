use Rattle.std.proofs.Common.{length}
use Rattle.stash_file.proofs.Entries.{IsPartWritten}
use Rattle.stash_file.proofs.writing.write_stash.Given as goal

abbrev pub invariant-loop-master : goal.invariant-loop-master
invariant-loop-master l = IsPartWritten l.realm l.secs l.out.items l.masters l.rest

abbrev pub decreases-loop-master : goal.decreases-loop-master
decreases-loop-master l = length l.rest
