-- What ties the index of a file of cells to the bytes of the file.
use Rattle.std.specs.Prelude.{◌≡◌, ◌≢◌, ◌≤◌, ◌+◌, ℕ, false, List, length, Some, None, Ok}
use Rattle.kdb_base.specs.Limits.{most_rows}
use Rattle.kdb_cells.specs.declared.units.StoredRow.{StoredRow}
use Rattle.kdb_cells.specs.Cells.{Cell, name_of, IsCell}
use Rattle.kdb_cells.specs.Sheets.{Sheet, clash, is_too_far, set_cell, taken, taken_by, sheet_in}
use Rattle.kdb_cells.specs.Changes.{cell_no}
use Rattle.kdb_cells.specs.Leads.{Units}
use Rattle.kdb_cells.specs.CellFiles as files
use Rattle.kdb_cells.specs.CellFiles.{CellFile}

-- the cell has a row of this key
abbrev pub HasKey : List ℕ → Cell → Type 0
HasKey key None = ⊥
HasKey key (Some r) = name_of r ≡ key

-- Each key leads to the cell that has its row, each row is led to, and the first unit past the end is known.
pub record AreCellsOf (u : Units) (cells : List Cell) : Type 0 where
  pub leads : (key : List ℕ) (i : ℕ) → u.of key ≡ Some i → HasKey key (cell_no i cells)
  pub found : (i : ℕ) (r : StoredRow) → cell_no i cells ≡ Some r → u.of (name_of r) ≡ Some i
  pub next : u.next ≡ length cells

-- The bytes hold this realm and these cells, and the index leads to them.
pub record IsFileOf (c : CellFile) (sheet : Sheet) (file : List ℕ) : Type 0 where
  pub read : sheet_in c.format file ≡ Ok sheet
  pub cells : AreCellsOf (files.units c) sheet.cells
  pub count : files.count c ≡ taken sheet.cells

-- what a file of cells holds with another cell at this number
abbrev pub with_cell : ℕ → Cell → Sheet → Sheet
with_cell i c sheet = record { realm = sheet.realm; cells = set_cell i c sheet.cells }

-- What is asked of a cell that is to stand in this unit.
pub record MayStand (format i : ℕ) (c : Cell) (cells : List Cell) : Type 0 where
  pub from : 1 ≤ i
  pub within : i ≤ length cells
  pub fits : IsCell format c
  pub near : is_too_far i c ≡ false
  pub alone : (j : ℕ) → j ≢ i → clash c (cell_no j cells) ≡ false
  pub few : taken cells + taken_by c ≤ most_rows + taken_by (cell_no i cells)
