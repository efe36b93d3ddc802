use Rattle.std.proofs.Common.{◌≡◌, take}
use Rattle.row_keys.proofs.ring.ready_all.Given as goal

abbrev pub invariant-loop-master : goal.invariant-loop-master
invariant-loop-master l = l.items.items ≡ take l.master-index l.masters
