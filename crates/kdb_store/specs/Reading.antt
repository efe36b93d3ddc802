-- What is kept of files that were read.
use Rattle.std.specs.Prelude.{◌≡◌, List, Result, Ok}
use Rattle.kdb_base.specs.declared.outcomes.Refusal.{Refusal}
use Rattle.kdb_cells.specs.Cells.{Cell}
use Rattle.kdb_cells.specs.Changes.{rows_of}
use Rattle.store_files.specs.Found.{Found}
use Rattle.store_files.specs.Kept.{Kept, found_with}

-- what is kept is what was found, with these cells
pub record IsFoundAs (k : Kept) (found : Result Found Refusal) : Type 0 where
  pub cells : List Cell
  pub rows : rows_of cells ≡ k.rows
  pub is : found ≡ Ok (found_with k cells)
