use Rattle.row_keys.specs.Shows.{ShowsSet}
use Rattle.row_keys.proofs.Opened.{IsOpened}
use Rattle.row_keys.proofs.opening.open_sets.Given as goal

abbrev pub invariant-loop-set : goal.invariant-loop-set
invariant-loop-set l = IsOpened (ShowsSet l.history) l.sets l.plain.items l.set-index
