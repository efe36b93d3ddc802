use Rattle.row_keys.proofs.Wrapped.{IsWrapped}
use Rattle.row_keys.proofs.wraps.wrapped_items.Given as goal

abbrev pub invariant-loop-item : goal.invariant-loop-item
invariant-loop-item l = IsWrapped l.master l.drawn l.random l.items l.out.items l.left l.item-index
