use Rattle.row_keys.proofs.Wrapped.{AreWrapped}
use Rattle.row_keys.proofs.remembering.wrapped_old_keys.Given as goal

abbrev pub invariant-loop-key : goal.invariant-loop-key
invariant-loop-key l = AreWrapped l.history l.random l.keys l.out.items l.left l.key-index
