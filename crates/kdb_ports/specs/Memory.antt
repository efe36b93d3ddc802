-- The objects in memory, as contracts see them.
use Rattle.std.specs.Prelude.{ℕ, ◌+◌, List, min}

-- a source: the bytes that are left, the calls that are to fail, the calls made and those that failed
pub record SourceState : Type 0 where
  pub left : List ℕ
  pub fails : List ℕ
  pub calls : ℕ
  pub faults : ℕ

-- a sink: the bytes that it took
pub record SinkState : Type 0 where
  pub written : List ℕ
  pub fails : List ℕ
  pub calls : ℕ
  pub faults : ℕ

-- one more, up to the end of a u64
abbrev pub counted_up : ℕ → ℕ
counted_up n = min (n + 1) 18446744073709551615
