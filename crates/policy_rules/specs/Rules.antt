-- A policy, as contracts see it.
use Rattle.std.specs.Prelude.{ℕ, List}

pub record Rules : Type 0 where
  pub name : List ℕ
  pub max_life : ℕ
  pub min_life : ℕ
  pub min_length : ℕ
  pub min_classes : ℕ
  pub history : ℕ
