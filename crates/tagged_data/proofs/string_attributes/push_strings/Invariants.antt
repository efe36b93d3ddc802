use Rattle.std.proofs.Common.{◌≡◌, ◌++◌, take}
use Rattle.std.specs.List.{flat_map}
use Rattle.tagged_data.specs.Strings.{string}
use Rattle.tagged_data.proofs.string_attributes.push_strings.Given as goal

abbrev pub invariant-loop-item : goal.invariant-loop-item
invariant-loop-item l = l.out.items ≡ l.fn.out.items ++ flat_map string (take l.item-index l.items)
