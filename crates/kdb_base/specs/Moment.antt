-- A moment, as contracts see it.
use Rattle.std.specs.Prelude.{ℕ}

pub record Moment : Type 0 where
  pub secs : ℕ
  pub usecs : ℕ
