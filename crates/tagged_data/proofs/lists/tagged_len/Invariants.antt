use Rattle.std.proofs.Common.{◌≡◌, ◌+◌, ◌*◌, ◌≤◌, take, length}
use Rattle.std.specs.List.{sum_by}
use Rattle.tagged_data.specs.Items.{item}
use Rattle.tagged_data.proofs.lists.tagged_len.Given as goal

abbrev pub invariant-loop-item : goal.invariant-loop-item
invariant-loop-item l =
    (l.len ≡ 2 + sum_by (λ i. length (item i)) (take l.item-index l.item-items)) × (l.len ≤ 2 + l.item-index * 65539)
