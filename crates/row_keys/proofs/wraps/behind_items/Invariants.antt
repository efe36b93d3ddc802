use Rattle.row_keys.proofs.Wrapped.{IsBehind}
use Rattle.row_keys.proofs.wraps.behind_items.Given as goal

abbrev pub invariant-loop-item : goal.invariant-loop-item
invariant-loop-item l = IsBehind l.drawn l.fn.random l.items l.left l.item-index
