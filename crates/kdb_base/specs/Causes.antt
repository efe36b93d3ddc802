-- The cause of an answer: a count of faults of the object that was handed in.
use Rattle.std.specs.Prelude.{ℕ, ◌+◌, ◌≤◌, min, Result, OnErr}

-- a count of faults rose, or it stands at the end of its type
abbrev pub Rose : ℕ → ℕ → Type 0
Rose before now = min (before + 1) 18446744073709551615 ≤ now

-- the count did not fall, and an error comes only where it rose
pub record HasCause {T E : Type 0} (before now : ℕ) (result : Result T E) : Type 0 where
  pub later : before ≤ now
  pub failed : OnErr result (Rose before now)
