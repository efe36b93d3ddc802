use Rattle.std.proofs.Common.{◌≡◌, ◌++◌, take}
use Rattle.std.specs.List.{flat_map}
use Rattle.tagged_data.specs.Versions.{aux_key}
use Rattle.tagged_data.proofs.versions.push_aux_keys.Given as goal

abbrev pub invariant-loop-item : goal.invariant-loop-item
invariant-loop-item l = l.out.items ≡ l.fn.out.items ++ flat_map aux_key (take l.item-index l.items)
