use Rattle.std.proofs.Common.{◌≡◌, ℕ, ◌<◌, [], length, slice_index_or}
use Rattle.aes_cts.specs.Words.{block_of, undo_key}
use Rattle.aes_cts.proofs.schedule.undoing.Given as goal

abbrev pub invariant-loop-index : goal.invariant-loop-index
invariant-loop-index g l =
    (length l.undo ≡ g.row.N) × ((r : ℕ) → r < l.index → block_of (slice_index_or l.undo r []) ≡ undo_key l.keys r)
