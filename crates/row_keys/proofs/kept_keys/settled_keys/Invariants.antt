use Rattle.std.proofs.Common.{◌≡◌, map, take}
use Rattle.row_keys.specs.KeptKeys.{settled_kept}
use Rattle.row_keys.proofs.kept_keys.settled_keys.Given as goal

abbrev pub invariant-loop-item : goal.invariant-loop-item
invariant-loop-item l = l.keys.items ≡ map (settled_kept l.fn.name) (take l.item-index l.items)
