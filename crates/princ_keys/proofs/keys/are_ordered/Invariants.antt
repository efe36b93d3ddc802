use Rattle.std.proofs.Common.{◌≡◌, length}
use Rattle.princ_keys.specs.Keys.{are_ordered}
use Rattle.princ_keys.proofs.keys.are_ordered.Given as goal

abbrev pub invariant-loop-key : goal.invariant-loop-key
invariant-loop-key l = are_ordered l.rest ≡ are_ordered l.fn.keys

abbrev pub decreases-loop-key : goal.decreases-loop-key
decreases-loop-key l = length l.rest
