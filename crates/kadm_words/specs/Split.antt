-- What a line is split into.
use Rattle.std.specs.Prelude.{ℕ, List, Option, Some, None}
use Rattle.kadm_words.specs.Words.{SpellsWords}

-- the line's words, or none where no words spell it
abbrev pub IsSplit : List ℕ → Option (List (List ℕ)) → Type 0
IsSplit line None = (words : List (List ℕ)) → SpellsWords words line → ⊥
IsSplit line (Some words) = SpellsWords words line
