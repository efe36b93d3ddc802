use Rattle.std.proofs.Common.{◌≡◌, ℕ, ◌+◌, ◌*◌, ◌<◌, length, get_or}
use Rattle.krb_profile.specs.NFold.{copied_bit, number_of}
use Rattle.krb_profile.proofs.folding.piece_at.Given as goal

-- the bytes so far are those of the copies
abbrev pub invariant-loop-i : goal.invariant-loop-i
invariant-loop-i l = (length l.piece ≡ 64)
    × ((k : ℕ) → k < l.i → get_or l.piece k 0 ≡ number_of (copied_bit l.text) (8 * (l.start + k)) 8)
