use Rattle.row_keys.specs.Shows.{ShowsOldKey}
use Rattle.row_keys.proofs.Opened.{IsOpened}
use Rattle.row_keys.proofs.opening.open_old_keys.Given as goal

abbrev pub invariant-loop-old : goal.invariant-loop-old
invariant-loop-old l = IsOpened (ShowsOldKey l.history) l.kept l.keys.items l.old-index
