use Rattle.std.proofs.Common.{◌≡◌, map, take}
use Rattle.kdb_model.specs.Steps.{key_shown}
use Rattle.kdb_model.proofs.reading.keys_shown.Given as goal

abbrev pub invariant-loop-item : goal.invariant-loop-item
invariant-loop-item l = l.keys.items ≡ map key_shown (take l.item-index l.items)
