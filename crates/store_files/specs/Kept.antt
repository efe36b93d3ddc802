-- What is kept in memory of the files of a database, and what ties it to them.
use Rattle.std.specs.Prelude.{◌≡◌, ℕ, Bool, List, map, Option}
use Rattle.kdb_disk.specs.View.{View}
use Rattle.kdb_control.specs.Choice.{Choice}
use Rattle.princ_rows.specs.Rows.{RowLists}
use Rattle.update_log.specs.Logs.{Journal, entry_of}
use Rattle.update_log.specs.Moments.{HasLog, IsDurable}
use Rattle.kdb_cells.specs.Cells.{Cell}
use Rattle.kdb_cells.specs.CellFiles.{CellFile, units, count}
use Rattle.kdb_cells.specs.Changes.{rows_of}
use Rattle.kdb_cells.specs.FileCells.{AreCellsOf, IsFileOf}
use Rattle.kdb_cells.specs.Sheets.{Sheet, taken}
use Rattle.kdb_places.specs.Places.{Place}
use Rattle.store_files.specs.Found.{Found}
use Rattle.store_files.specs.Standing.{Holds}

-- The choice of files in force, the log, the file of cells, the rows in the order of their keys, the realm, the stash,
-- and whether a change failed by the disk.
pub record Kept : Type 0 where
  pub control : Choice
  pub log : Journal
  pub cells : CellFile
  pub rows : RowLists
  pub realm : List ℕ
  pub stash : Option (List ℕ)
  pub broken : Bool

-- the place of what is kept
abbrev pub place_kept : Kept → Place
place_kept k = record {
  realm = k.realm;
  rows = k.rows;
  held = map entry_of k.log.held;
  stash = k.stash;
  size = k.control.size;
  block = k.control.block;
  format = k.control.format;
}

-- The index leads to cells of these rows: each key to the cell of its row, and there are no other rows. It is known
-- whatever a disk tells of its files.
pub record AreIndexed (c : CellFile) (rows : RowLists) : Type 0 where
  pub cells : List Cell
  pub leads : AreCellsOf (units c) cells
  pub many : count c ≡ taken cells
  pub rows_is : rows_of cells ≡ rows

-- the log and the file of cells are those that the choice names
pub record HasChosen (k : Kept) : Type 0 where
  pub log : k.log.file ≡ k.control.log
  pub base : k.log.base ≡ k.control.base
  pub size : k.log.size ≡ k.control.size
  pub block : k.log.block ≡ k.control.block
  pub image : k.cells.file ≡ k.control.image
  pub format : k.cells.format ≡ k.control.format

-- What is kept hangs together.
pub record IsKept (k : Kept) : Type 0 where
  pub chosen : HasChosen k
  pub indexed : AreIndexed k.cells k.rows

-- the same, with another log, other cells and other rows
abbrev pub with_parts : Journal → CellFile → RowLists → Kept → Kept
with_parts log cells rows k = record {
  control = k.control;
  log = log;
  cells = cells;
  rows = rows;
  realm = k.realm;
  stash = k.stash;
  broken = k.broken;
}

abbrev pub sheet_with : Kept → List Cell → Sheet
sheet_with k cells = record { realm = k.realm; cells = cells }

-- what the files hold, where these are the cells
abbrev pub found_with : Kept → List Cell → Found
found_with k cells = record { control = k.control; held = k.log.held; sheet = sheet_with k cells; stash = k.stash }

-- What is kept stands on the disk, whatever a crash leaves.
pub record IsOnDisk (k : Kept) (now : View) : Type 0 where
  pub cells : List Cell
  pub rows : rows_of cells ≡ k.rows
  -- the index leads to the cells that the file holds
  pub file : IsFileOf k.cells (sheet_with k cells) (now.seen k.cells.file)
  pub stands : Holds (found_with k cells) now
  pub log : HasLog k.log now
  pub durable : IsDurable k.log.file now
