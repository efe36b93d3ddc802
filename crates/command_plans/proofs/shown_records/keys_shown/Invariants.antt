use Rattle.std.proofs.Common.{◌≡◌, map, take}
use Rattle.command_plans.specs.ShownRecords.{key_shown}
use Rattle.command_plans.proofs.shown_records.keys_shown.Given as goal

abbrev pub invariant-loop-item : goal.invariant-loop-item
invariant-loop-item l = l.keys.items ≡ map key_shown (take l.item-index l.items)
