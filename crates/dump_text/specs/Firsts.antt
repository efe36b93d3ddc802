-- The line that is named where a text is no dump's.
use Rattle.std.specs.Prelude.{ℕ, suc, ◌<◌, ◌≤◌, ◌≡◌, List, length, take}
use Rattle.std.specs.List.{flat_map}
use Rattle.dump_text.specs.Dumps.{ended}
use Rattle.dump_text.specs.Judged.{BeginsDump, IsDumpText, line_behind}
use Rattle.dump_text.specs.Lines.{lines_of}
use Rattle.dump_text.specs.declared.dumps.Dump.{Dump}

-- A dump goes on with the lines before this one, and none goes on with this line behind them. Where no line
-- is left, the text is no dump's.
pub record IsFirstBad (text : List ℕ) (line : ℕ) : Type 0 where
  pub before : ℕ
  pub number : line ≡ line_behind before
  pub within : before ≤ length (lines_of text).whole
  pub begins : BeginsDump (flat_map ended (take before (lines_of text).whole))
  pub breaks : before < length (lines_of text).whole
      → BeginsDump (flat_map ended (take (suc before) (lines_of text).whole)) → ⊥
  pub misses : before ≡ length (lines_of text).whole → (dump : Dump) → IsDumpText text dump → ⊥
