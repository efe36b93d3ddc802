use Rattle.std.proofs.Common.{◌≡◌, map, take}
use Rattle.plain_keys.specs.Keys.{settled_item}
use Rattle.kdb_model.proofs.records.settled_items.Given as goal

abbrev pub invariant-loop-item : goal.invariant-loop-item
invariant-loop-item l = l.settled.items ≡ map (settled_item l.fn.name) (take l.item-index l.items)
