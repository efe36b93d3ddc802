use Rattle.std.proofs.Common.{◌≡◌, length}
use Rattle.princ_keys.specs.Keys.{are_falling}
use Rattle.princ_keys.proofs.keys.are_falling.Given as goal

abbrev pub invariant-loop-key : goal.invariant-loop-key
invariant-loop-key l = are_falling l.rest ≡ are_falling l.fn.keys

abbrev pub decreases-loop-key : goal.decreases-loop-key
decreases-loop-key l = length l.rest
