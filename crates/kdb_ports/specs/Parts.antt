-- A text of which a sink took a part.
use Rattle.std.specs.Prelude.{ℕ, ◌≡◌, List, Option, take}
use Rattle.kdb_ports.specs.Told.{after_told}

-- a front of the text was taken
pub record SaidPart (text : List ℕ) (old new : Option (List ℕ)) : Type 0 where
  pub count : ℕ
  pub part : new ≡ after_told old (take count text)
