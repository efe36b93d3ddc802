use Rattle.std.proofs.Common.{◌≡◌, ◌+◌, ◌≤◌, true, length}
use Rattle.iprop_wire.specs.Decoding.{fed, taken, is_going, is_sound}
use Rattle.iprop_wire.proofs.decoder.Decoder.feed.Given as goal

-- what is left leads to what the piece leads to
abbrev pub invariant-loop-self : goal.invariant-loop-self
invariant-loop-self l =
    (fed l.self l.rest ≡ fed l.fn.self l.fn.piece)
    × ((taken l.fn.self l.fn.piece + length l.rest ≡ length l.fn.piece + taken l.self l.rest)
    × ((length l.rest ≤ length l.fn.piece) × ((is_sound l.self ≡ true) × (is_going l.fn.self ≡ true))))

abbrev pub decreases-loop-self : goal.decreases-loop-self
decreases-loop-self l = length l.rest
