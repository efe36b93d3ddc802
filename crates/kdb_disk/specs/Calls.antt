-- What a call of a disk in memory adds to its record, and to its count of faults.
use Rattle.std.specs.Prelude.{ℕ, List, Vec, ◌∷◌, ◌≡◌, ◌⊎◌, ◌+◌, min}
use Rattle.std.specs.declared.alloc.Global.{Global}
use Rattle.kdb_disk.specs.declared.record.Call.{Call}
use Rattle.kdb_disk.specs.declared.record.Call.TheVariants.{Wrote, Looked}

-- one more, up to the end of a u64
abbrev pub counted_up : ℕ → ℕ
counted_up n = min (n + 1) 18446744073709551615

-- the record has one write more, of these bytes
pub record AddsWrite (file at : ℕ) (bytes : List ℕ) (old new : List Call) : Type 0 where
  pub held : Vec ℕ Global
  pub same : held.items ≡ bytes
  pub is : new ≡ Wrote file at held ∷ old

-- the record has one call more that changed nothing, or none where there was no memory for it
abbrev pub LooksAtMost : List Call → List Call → Type 0
LooksAtMost old new = (new ≡ Looked ∷ old) ⊎ (new ≡ old)
