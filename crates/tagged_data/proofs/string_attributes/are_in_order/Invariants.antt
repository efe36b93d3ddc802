use Rattle.std.proofs.Common.{◌≡◌, drop, None}
use Rattle.std.specs.Prelude.{option_map}
use Rattle.tagged_data.specs.KeyOrder.{rises_from}
use Rattle.tagged_data.specs.Strings.{keys_of}
use Rattle.tagged_data.proofs.string_attributes.are_in_order.Given as goal

abbrev pub invariant-loop-item : goal.invariant-loop-item
invariant-loop-item l = rises_from (option_map (λ k. k.now) l.last) (keys_of (drop l.item-index l.items))
    ≡ rises_from None (keys_of l.fn.items)
