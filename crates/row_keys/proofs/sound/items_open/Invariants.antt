use Rattle.std.proofs.Common.{take}
use Rattle.std.specs.List.{All}
use Rattle.master_keys.specs.Rewrapping.{HoldsOne}
use Rattle.row_keys.proofs.sound.items_open.Given as goal

abbrev pub invariant-loop-item : goal.invariant-loop-item
invariant-loop-item l = All (HoldsOne l.master) (take l.item-index l.items)
