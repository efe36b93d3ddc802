-- What stays of a log and of a file of cells in memory.
use Rattle.std.specs.Prelude.{◌≡◌}
use Rattle.kdb_base.specs.declared.moments.Point.{Point}
use Rattle.kdb_places.specs.Places.{next_point}
use Rattle.princ_rows.specs.Rows.{RowLists}
use Rattle.store_files.specs.Kept.{Kept, HasChosen, IsOnDisk, place_kept, with_parts}
use Rattle.kdb_disk.specs.Files.{Files}
use Rattle.kdb_disk.specs.View.{View}
use Rattle.princ_rows.specs.declared.entries.Logged.{Logged}
use Rattle.store_files.specs.Found.{Found}
use Rattle.store_files.specs.Standing.{Holds, Pending, IsLogOf, IsChange}
use Rattle.kdb_cells.specs.CellFiles.{CellFile, units, count}
use Rattle.kdb_cells.specs.FileCells.{IsFileOf}
use Rattle.update_log.specs.Logs.{Journal}

-- Each key leads where it led, whatever unit is given.
pub record LeadsAlike (old new : CellFile) : Type 0 where
  pub file_is : new.file ≡ old.file
  pub format_is : new.format ≡ old.format
  pub of_is : (units new).of ≡ (units old).of
  pub next_is : (units new).next ≡ (units old).next
  pub many : count new ≡ count old

-- The log holds what it held, whatever is prepared.
pub record HoldsAlike (old new : Journal) : Type 0 where
  pub file_is : new.file ≡ old.file
  pub base_is : new.base ≡ old.base
  pub size_is : new.size ≡ old.size
  pub block_is : new.block ≡ old.block
  pub held_is : new.held ≡ old.held

-- Whatever a crash leaves has the entry open in the log, and its unit may have any bytes.
pub record ArePending (l : Logged) (o : Found) (now : View) : Type 0 where
  pub each : (c : Files) → now.images c → Pending l o c

-- A log and a file of cells in memory are those of what stands on the disk, and the entry is a change of it.
pub record MayCommit (log : Journal) (cells : CellFile) (l : Logged) (o : Found) (now : View) : Type 0 where
  pub log_is : IsLogOf log o
  pub stands : Holds o now
  pub change : IsChange o l
  pub file_is : cells.file ≡ o.control.image
  pub format_is : cells.format ≡ o.control.format
  pub tie : IsFileOf cells o.sheet (now.seen cells.file)

-- The log's file and its numbers stay.
pub record SameNumbers (old new : Journal) : Type 0 where
  pub file_is : new.file ≡ old.file
  pub base_is : new.base ≡ old.base
  pub size_is : new.size ≡ old.size
  pub block_is : new.block ≡ old.block

-- What is kept with these parts stands on the disk, and the point is the one of its next change.
pub record StandsOn (log : Journal) (cells : CellFile) (rows : RowLists) (k : Kept) (point : Point)
    (now : View) : Type 0 where
  pub chosen : HasChosen (with_parts log cells rows k)
  pub on : IsOnDisk (with_parts log cells rows k) now
  pub next_is : point ≡ next_point point.time (place_kept (with_parts log cells rows k))
