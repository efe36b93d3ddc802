use Rattle.std.proofs.Common.{◌≡◌, ◌++◌, take}
use Rattle.std.specs.List.{flat_map}
use Rattle.iprop_wire.specs.Messages.{update_text}
use Rattle.iprop_wire.proofs.messages.push_updates.Given as goal

abbrev pub invariant-loop-entry : goal.invariant-loop-entry
invariant-loop-entry l = l.out.items ≡ l.fn.out.items ++ flat_map update_text (take l.entry-index l.updates)
