use Rattle.std.proofs.Common.{◌≡◌, length}
use Rattle.replica_steps.specs.Judging.{gap_in}
use Rattle.replica_core.proofs.judging.first_gap.Given as goal

abbrev pub invariant-loop-update : goal.invariant-loop-update
invariant-loop-update l = gap_in l.based l.at l.left ≡ gap_in l.fn.based l.fn.at l.fn.updates

abbrev pub decreases-loop-update : goal.decreases-loop-update
decreases-loop-update l = length l.left
