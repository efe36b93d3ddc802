-- The lines of a text of rules, and the words of a line.
use Rattle.std.specs.Prelude.{ℕ, ◌+◌, ◌-◌, ◌==◌, Bool, true, false, not, ◌||◌, List, [], ◌∷◌, ◌++◌}
use Rattle.std.specs.Prelude.{length, take, filter, slice_index, Option, Some, None, if◌then◌else◌}
use Rattle.std.specs.List.{slice_split}
use Rattle.acl_text.specs.declared.texts.Line.{Line}

abbrev pub is_feed : ℕ → Bool
is_feed byte = byte == 10

-- a space or a tab
abbrev pub is_gap : ℕ → Bool
is_gap byte = byte == 32 || byte == 9

-- what stands before a backslash at the end of a text
unfoldable pub carried : List ℕ → Option (List ℕ)
carried text = if slice_index text (length text - 1) == 92 then Some (take (length text - 1) text) else None

-- a text before the first of the lines, which then begins with it, at its number
unfoldable pub onto_line : ℕ → List ℕ → List Line → List Line
onto_line number text [] = []
onto_line number text (line ∷ lines) = record { number = number; text = text ++ line.text } ∷ lines

-- a line, or a text that goes on with the next line
abbrev pub before_lines : ℕ → List ℕ → Option (List ℕ) → List Line → List Line
before_lines number text None lines = record { number = number; text = text } ∷ lines
before_lines number text (Some front) lines = onto_line number front lines

-- the lines of the texts between line feeds, of which the first has this number: a backslash before a line feed is
-- dropped with it
unfoldable pub lines_from : ℕ → List (List ℕ) → List Line
lines_from number [] = []
lines_from number (text ∷ []) = record { number = number; text = text } ∷ []
lines_from number (text ∷ next ∷ texts) =
    before_lines number text (carried text) (lines_from (number + 1) (next ∷ texts))

unfoldable pub lines_of : List ℕ → List Line
lines_of text = lines_from 1 (slice_split is_feed text)

-- nothing, or a comment
unfoldable pub is_skipped : List ℕ → Bool
is_skipped [] = true
is_skipped (byte ∷ rest) = byte == 35

abbrev pub is_said : Line → Bool
is_said line = not (is_skipped line.text)

unfoldable pub said_lines : List Line → List Line
said_lines lines = filter is_said lines

abbrev pub is_word : List ℕ → Bool
is_word [] = false
is_word (byte ∷ rest) = true

unfoldable pub words_of : List ℕ → List (List ℕ)
words_of text = filter is_word (slice_split is_gap text)
