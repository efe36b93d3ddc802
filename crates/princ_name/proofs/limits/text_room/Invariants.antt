-- What is left of the room, by the bytes that are left.
use Rattle.std.proofs.Common.{◌≡◌, ◌+◌, length, drop}
use Rattle.princ_name.specs.Names.{printed_text}
use Rattle.princ_name.proofs.limits.text_room.Given as goal

abbrev pub invariant-loop-byte : goal.invariant-loop-byte
invariant-loop-byte l =
    l.left + length (printed_text l.text) ≡ l.fn.room + length (printed_text (drop l.byte-index l.text))
