use Rattle.std.proofs.Common.{◌≡◌, map, take}
use Rattle.plain_keys.specs.Keys.{item_of}
use Rattle.plain_keys.proofs.new_keys.items_of.Given as goal

abbrev pub invariant-loop-key : goal.invariant-loop-key
invariant-loop-key l = l.items.items ≡ map (item_of l.fn.kvno) (take l.key-index l.keys)
