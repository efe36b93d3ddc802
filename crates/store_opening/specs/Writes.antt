-- What is written into a unit.
use Rattle.std.specs.Prelude.{◌≡◌, ◌≤◌, ◌<◌, ℕ, List, Some, None}
use Rattle.kdb_base.specs.Limits.{most_rows}
use Rattle.kdb_cells.specs.declared.units.StoredRow.{StoredRow}
use Rattle.kdb_cells.specs.Cells.{Cell, IsRowText}
use Rattle.kdb_cells.specs.CellFiles.{CellFile, units, count}
use Rattle.kdb_cells.specs.FileCells.{AreCellsOf}
use Rattle.kdb_cells.specs.Sheets.{Sheet, taken}
use Rattle.kdb_cells.specs.Leads.{IsFree}
use Rattle.store_files.specs.Found.{unit_numbered, with_unit}
use Rattle.kdb_disk.specs.Files.{Files, written}
use Rattle.kdb_disk.specs.View.{View}
use Rattle.store_opening.specs.declared.unit_writes.UnitWrite.{UnitWrite}
use Rattle.store_opening.specs.declared.unit_writes.UnitWrite.TheVariants.{Nothing, Put, Free}

-- the number of the unit, 0 for none
abbrev pub number_of : UnitWrite → ℕ
number_of Nothing = 0
number_of (Put cell key row kind) = cell
number_of (Free cell) = cell

-- it writes this cell, in files of this format
abbrev pub WritesIn : ℕ → UnitWrite → Cell → Type 0
WritesIn format Nothing c = c ≡ None
WritesIn format (Put cell key row kind) c = (r : StoredRow) × ((c ≡ Some r) × IsRowText format kind key row r)
WritesIn format (Free cell) c = c ≡ None

-- the unit was given for it
abbrev pub IsGivenTo : UnitWrite → CellFile → Type 0
IsGivenTo Nothing c = Unit {0}
IsGivenTo (Put cell key row kind) c = (1 ≤ cell) × ((units c).placed ≡ Some cell)
IsGivenTo (Free cell) c = (1 ≤ cell) × ((units c).placed ≡ Some cell)

-- A row may be put into the unit: its key leads to no other, and there is room for it.
pub record MayPut (cell : ℕ) (key : List ℕ) (c : CellFile) : Type 0 where
  pub alone : (i : ℕ) → (units c).of key ≡ Some i → i ≡ cell
  pub few : IsFree cell (units c) → count c < most_rows

abbrev pub MayWrite : UnitWrite → CellFile → Type 0
MayWrite Nothing c = Unit {0}
MayWrite (Put cell key row kind) c = MayPut cell key c
MayWrite (Free cell) c = Unit {0}

-- ---- what was written

-- Bytes were written at this place of the file, on the disk.
pub record IsWritten (file at : ℕ) (old new : View) : Type 0 where
  pub bytes : List ℕ
  pub seen : new.seen ≡ written file at bytes old.seen
  pub durable : (c : Files) → new.images c → c file ≡ new.seen file

-- The index leads to these cells.
pub record HoldsCells (c : CellFile) (cells : List Cell) : Type 0 where
  pub leads : AreCellsOf (units c) cells
  pub many : count c ≡ taken cells

-- what a file of cells holds once the unit of this number has another cell, or none where it is 0
abbrev pub changed_sheet : ℕ → Cell → Sheet → Sheet
changed_sheet cell c sheet = record { realm = sheet.realm; cells = with_unit (unit_numbered cell) c sheet.cells }
