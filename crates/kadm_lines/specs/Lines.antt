-- The lines of an input, and what a reader with a bounded memory sees of them.
use Rattle.std.specs.Prelude.{ℕ, ◌==◌, Bool, true, false, List, [], ◌∷◌, Option}
use Rattle.std.specs.Prelude.{Some, None, length, map, nat_lt, if◌then◌else◌}
use Rattle.kdb_base.specs.Limits.{longest_line}

-- a line: its bytes before the line feed or the end, and whether a line feed ended it
pub record Line : Type 0 where
  pub bytes : List ℕ
  pub ended : Bool

-- a byte at the front of the first line, which ends with the input where there is none yet
unfoldable pub onto_first : ℕ → List Line → List Line
onto_first b [] = record { bytes = b ∷ []; ended = false } ∷ []
onto_first b (line ∷ lines) = record { bytes = b ∷ line.bytes; ended = line.ended } ∷ lines

-- a line feed, 10, ends a line; what comes behind the last one is a line where it has a byte
unfoldable pub lines_of : List ℕ → List Line
lines_of [] = []
lines_of (b ∷ bytes) =
    if b == 10 then record { bytes = []; ended = true } ∷ lines_of bytes
    else onto_first b (lines_of bytes)

-- what a reader sees of a line: its text, or None where the line has more than 65536 bytes
pub record Seen : Type 0 where
  pub text : Option (List ℕ)
  pub ended : Bool

unfoldable pub seen : Line → Seen
seen line = record {
  text = (if nat_lt longest_line (length line.bytes) then None else Some line.bytes);
  ended = line.ended;
}

unfoldable pub seen_lines : List ℕ → List Seen
seen_lines bytes = map seen (lines_of bytes)

-- the same lines, where the first is the rest of one that is too long
unfoldable pub long_first : List Seen → List Seen
long_first [] = record { text = None; ended = false } ∷ []
long_first (first ∷ others) = record { text = None; ended = first.ended } ∷ others

-- the lines of these bytes, from between two lines or from inside one that is too long
unfoldable pub lines_from : Bool → List ℕ → List Seen
lines_from false bytes = seen_lines bytes
lines_from true bytes = long_first (seen_lines bytes)
