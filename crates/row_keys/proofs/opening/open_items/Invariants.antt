use Rattle.row_keys.specs.Shows.{ShowsItem}
use Rattle.row_keys.proofs.Opened.{IsOpened}
use Rattle.row_keys.proofs.opening.open_items.Given as goal

abbrev pub invariant-loop-item : goal.invariant-loop-item
invariant-loop-item l = IsOpened (ShowsItem l.master) l.items l.keys.items l.item-index
