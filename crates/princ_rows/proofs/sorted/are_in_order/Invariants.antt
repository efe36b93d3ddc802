use Rattle.std.proofs.Common.{◌≡◌, drop, map, None}
use Rattle.std.specs.Prelude.{option_map}
use Rattle.tagged_data.specs.KeyOrder.{rises_from}
use Rattle.princ_rows.proofs.sorted.are_in_order.Given as goal

abbrev pub invariant-loop-item : goal.invariant-loop-item
invariant-loop-item g l = rises_from (option_map (λ k. k.now) l.last) (map g.T.Keyed.key_of (drop l.item-index l.items))
    ≡ rises_from None (map g.T.Keyed.key_of l.fn.items)
