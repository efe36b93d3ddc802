-- How the lines of a text are joined, piece by piece.
use Rattle.std.specs.Prelude.{ℕ, ◌+◌, ◌≡◌, Bool, true, false, List, [], ◌∷◌, ◌++◌}
use Rattle.acl_text.specs.Texts.{lines_from, onto_line}
use Rattle.acl_text.specs.declared.texts.Joiner.{Joiner}
use Rattle.acl_text.specs.declared.texts.Line.{Line}

-- the lines that come, where the pieces from this place on follow
abbrev pub lines_with : Joiner → ℕ → List (List ℕ) → List Line
lines_with joiner at pieces =
    joiner.lines.items ++ onto_line (joiner.first + 1) joiner.text.items (lines_from (at + 1) pieces)

abbrev pub has_more : List (List ℕ) → Bool
has_more [] = false
has_more (piece ∷ pieces) = true

-- they stay the same when the piece at this place is taken
pub record TakesPiece (at : ℕ) (piece : List ℕ) (more : Bool) (old new : Joiner) : Type 0 where
  pub lines : (pieces : List (List ℕ)) → has_more pieces ≡ more
      → lines_with new (at + 1) pieces ≡ lines_with old at (piece ∷ pieces)
