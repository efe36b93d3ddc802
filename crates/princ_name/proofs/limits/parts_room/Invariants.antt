-- What is left of the room, by the components that are left.
use Rattle.std.proofs.Common.{◌≡◌, ◌+◌, drop}
use Rattle.princ_name.specs.Whole.{parts_cost}
use Rattle.princ_name.proofs.limits.parts_room.Given as goal

abbrev pub invariant-loop-part : goal.invariant-loop-part
invariant-loop-part l = l.left + parts_cost l.parts ≡ l.fn.room + parts_cost (drop l.part-index l.parts)
