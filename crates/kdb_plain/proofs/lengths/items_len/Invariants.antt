use Rattle.std.proofs.Common.{◌≡◌, take}
use Rattle.std.specs.List.{sum_by}
use Rattle.kdb_plain.specs.Lengths.{item_len, in_64_bits}
use Rattle.kdb_plain.proofs.lengths.items_len.Given as goal

abbrev pub invariant-loop-item : goal.invariant-loop-item
invariant-loop-item l = l.total ≡ in_64_bits (sum_by (item_len l.fn.master) (take l.item-index l.items))
