-- What is kept of files that were read.
use Rattle.std.specs.Prelude.{◌≡◌, List, Result, Ok}
use Rattle.kdb_base.specs.declared.outcomes.Refusal.{Refusal}
use Rattle.kdb_cells.specs.Cells.{Cell}
use Rattle.kdb_cells.specs.Changes.{rows_of}
use Rattle.store_files.specs.Found.{Found}
use Rattle.store_files.specs.Kept.{Kept, found_with}

-- what is kept is what was found, with cells of its rows
abbrev pub IsFoundOf : Kept → Result Found Refusal → Type 0
IsFoundOf k found = (cells : List Cell) × ((rows_of cells ≡ k.rows) × (found ≡ Ok (found_with k cells)))
