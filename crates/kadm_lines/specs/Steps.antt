-- What a step of a reader does to the lines that come.
use Rattle.std.specs.Prelude.{ℕ, ◌≡◌, ◌≤◌, Bool, true, List, [], Option, Some, None, length, IsTrue, if◌then◌else◌}
use Rattle.kdb_base.specs.Limits.{longest_line}
use Rattle.kadm_lines.specs.Lines.{Line, Seen, seen}
use Rattle.kadm_lines.specs.Windows.{lacks_feed}
use Rattle.kadm_lines.specs.Reader.{ReaderState, Advances, to_come}
use Rattle.kadm_lines.specs.declared.readers.NextLine.{NextLine}
use Rattle.kadm_lines.specs.declared.readers.NextLine.TheVariants.{TooLong, End}
use Rattle.kadm_lines.specs.declared.readers.NextLine.TheVariants as answer

-- the answer gives the first of the lines that came, whatever the source still holds
pub record Gives (next : NextLine) (old new : ReaderState) : Type 0 where
  pub at : (told : Option (List ℕ)) → Advances next new.text (to_come old told) (to_come new told)

-- the lines that come are the same, whatever the source still holds
pub record Keeps (old new : ReaderState) : Type 0 where
  pub at : (told : Option (List ℕ)) → to_come new told ≡ to_come old told

-- no line that is held is whole
pub record Waits (s : ReaderState) : Type 0 where
  pub no_text : s.text ≡ []
  pub lacks : lacks_feed s.pending ≡ true
  pub short : length s.pending ≤ longest_line
  pub skips : IsTrue s.skipping → s.pending ≡ []

-- what is seen of a line, or of the rest of one that is too long
abbrev pub line_seen : Bool → Line → Seen
line_seen skipping line = if skipping then record { text = None; ended = line.ended } else seen line

-- the answer is this line
unfoldable pub Answers : NextLine → List ℕ → Seen → Type 0
Answers (answer.Line ended) text line = line ≡ record { text = Some text; ended = ended }
Answers (TooLong ended) text line = line ≡ record { text = None; ended = ended }
Answers End text line = ⊥
