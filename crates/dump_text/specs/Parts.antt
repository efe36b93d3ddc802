-- A text that is written in parts.
use Rattle.std.specs.Prelude.{ℕ, ◌≡◌, List, ◌++◌, Option}
use Rattle.kdb_ports.specs.Told.{after_told}

-- of a text the front was written, and these bytes are held
pub record Holds (text : List ℕ) (old new : Option (List ℕ)) (held : List ℕ) : Type 0 where
  pub front : List ℕ
  pub parts : text ≡ front ++ held
  pub told : new ≡ after_told old front
