use Rattle.std.proofs.Common.{◌+◌, length}
use Rattle.kadm_values.specs.Globs.{AnyBytes, Matches}
use Rattle.kadm_values.proofs.globs.end_matches.Given as goal

-- some end of what is left is matched exactly where some end of the whole is
abbrev pub invariant-loop-count : goal.invariant-loop-count
invariant-loop-count l =
    (AnyBytes (Matches l.wanted) l.left → AnyBytes (Matches l.glob) l.text)
    × (AnyBytes (Matches l.glob) l.text → AnyBytes (Matches l.wanted) l.left)

abbrev pub decreases-loop-count : goal.decreases-loop-count
decreases-loop-count l = length l.wanted + length l.left
