-- How far an input was read.
use Rattle.std.specs.Prelude.{ℕ, ◌+◌, ◌≡◌, ◌<◌, List, length, Option, IfSome, option_map}
use Rattle.kdb_ports.specs.Told.{IsSpent}

-- It was read to its end, and was shorter than an input may be.
pub record IsReadWhole (before now : Option (List ℕ)) : Type 0 where
  pub spent : IsSpent now
  pub short : IfSome before (λ left. length left < 4294967296)

-- so many bytes were taken, as far as it is told
abbrev pub WereTaken : ℕ → Option (List ℕ) → Option (List ℕ) → Type 0
WereTaken n before now = option_map length before ≡ option_map (λ left. length left + n) now
