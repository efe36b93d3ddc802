use Rattle.std.proofs.Common.{◌≤◌, length, drop}
use Rattle.kadm_values.specs.Globs.{Matches}
use Rattle.kadm_values.proofs.globs.lies_on.Given as goal

-- what goes on behind the bytes so far matches whole
abbrev pub invariant-loop-at : goal.invariant-loop-at
invariant-loop-at l = (Matches (drop l.at l.glob) (drop l.at l.text) → Matches l.glob l.text) × (l.at ≤ length l.text)
