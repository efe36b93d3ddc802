use Rattle.std.proofs.Common.{◌≡◌, ◌++◌, length}
use Rattle.iprop_wire.specs.Messages.{pieces_text}
use Rattle.iprop_wire.proofs.messages.push_pieces.Given as goal

-- what was written, and what is left
abbrev pub invariant-loop-rest : goal.invariant-loop-rest
invariant-loop-rest l =
    l.out.items ++ pieces_text (length l.rest) l.rest ≡ l.fn.out.items ++ pieces_text (length l.fn.text) l.fn.text

abbrev pub decreases-loop-rest : goal.decreases-loop-rest
decreases-loop-rest l = length l.rest
