use Rattle.std.proofs.Common.{◌≡◌, drop, map}
use Rattle.tagged_data.specs.Rising.{rising_from}
use Rattle.tagged_data.proofs.rising.are_rising.Given as goal

abbrev pub invariant-loop-item : goal.invariant-loop-item
invariant-loop-item g l = rising_from l.least (map g.T.Numbered.number_of (drop l.item-index l.items))
    ≡ rising_from 0 (map g.T.Numbered.number_of l.items)
