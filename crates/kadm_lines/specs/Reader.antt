-- A reader of lines, and what its answers say of the lines that come.
use Rattle.std.specs.Prelude.{ℕ, ◌+◌, ◌-◌, ◌*◌, ◌≡◌, IsTrue, Bool, true, false, List, [], ◌∷◌}
use Rattle.std.specs.Prelude.{◌++◌, Option, Some, None, length, option_map, if◌then◌else◌, ⊤}
use Rattle.kadm_lines.specs.Lines.{Seen, lines_from}
use Rattle.kadm_lines.specs.declared.readers.NextLine.{NextLine}
use Rattle.kadm_lines.specs.declared.readers.NextLine.TheVariants.{Line, TooLong, End}

-- a reader, between two lines or inside one that is too long
pub record ReaderState : Type 0 where
  -- of the line given last; empty where the last answer was no line
  pub text : List ℕ
  -- inside a line that is too long
  pub skipping : Bool
  -- the bytes taken from the source and not given yet
  pub pending : List ℕ
  -- the source's end came
  pub over : Bool
  -- how many bytes were taken from the source
  pub taken : ℕ

-- nothing is read after the end
abbrev pub unread : Bool → List ℕ → List ℕ
unread over rest = if over then [] else rest

-- the lines that come, where the source tells what is left
unfoldable pub to_come : ReaderState → Option (List ℕ) → Option (List Seen)
to_come s told = option_map (λ rest. lines_from s.skipping (s.pending ++ unread s.over rest)) told

-- no line comes, where it is told
abbrev pub NothingComes : Option (List Seen) → Type 0
NothingComes None = ⊤
NothingComes (Some lines) = lines ≡ []

-- this line, and then what is told
abbrev pub before_lines : Seen → Option (List Seen) → Option (List Seen)
before_lines line told = option_map (λ lines. line ∷ lines) told

-- an answer gives the first of the lines that came, and the others still come
abbrev pub Advances : NextLine → List ℕ → Option (List Seen) → Option (List Seen) → Type 0
Advances (Line ended) text old new = old ≡ before_lines (record { text = Some text; ended = ended }) new
Advances (TooLong ended) text old new = old ≡ before_lines (record { text = None; ended = ended }) new
Advances End text old new = NothingComes old × (new ≡ old)

-- an answer after which nothing comes: the end, or a line that no line feed ended
abbrev pub is_last : NextLine → Bool
is_last (Line ended) = if ended then false else true
is_last (TooLong ended) = if ended then false else true
is_last End = true

-- the input came to its end, and no byte of it is left
pub record IsDone (s : ReaderState) : Type 0 where
  pub ended : IsTrue s.over
  pub within : s.skipping ≡ false
  pub none : s.pending ≡ []

-- a text was given
abbrev pub has_text : NextLine → Bool
has_text (Line ended) = true
has_text (TooLong ended) = false
has_text End = false

-- falls with each line that is given, and never rises: a byte counts twice until it is taken, once
-- until it is given or skipped, and the rest of a line that is too long counts once
abbrev pub work_left : ReaderState → ℕ
work_left s = 2 * (4294967296 - s.taken) + length s.pending + (if s.skipping then 1 else 0)

-- the same, and once more while the end has not come: falls with each read too
abbrev pub turns_left : ReaderState → ℕ
turns_left s = work_left s + (if s.over then 0 else 1)
