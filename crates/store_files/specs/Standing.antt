-- What stands on a disk, and what one change makes of it.
use Rattle.std.specs.Prelude.{◌≡◌, ◌≢◌, ◌≤◌, ◌<◌, ◌⊎◌, ℕ, Bool, true, false, List}
use Rattle.std.specs.Prelude.{[], ◌∷◌, ◌++◌, length, Option, Some, None, Result, Ok}
use Rattle.std.specs.Str.{bytes_eq}
use Rattle.kdb_disk.specs.Files.{Files}
use Rattle.kdb_disk.specs.View.{View}
use Rattle.kdb_control.specs.Choice.{Choice}
use Rattle.kdb_control.specs.Force.{in_force}
use Rattle.kdb_control.specs.declared.force.Force.TheVariants.{Is}
use Rattle.princ_rows.specs.declared.entries.Op.{Op}
use Rattle.princ_rows.specs.declared.entries.Op.TheVariants.{PutPrinc, DropPrinc, Rename, PutPolicy, DropPolicy}
use Rattle.princ_rows.specs.declared.entries.Logged.{Logged}
use Rattle.princ_rows.specs.Rows.{RowLists, AreRows}
use Rattle.update_log.specs.Logs.{Journal, newest}
use Rattle.update_log.specs.Runs.{log_in}
use Rattle.kdb_cells.specs.declared.units.StoredRow.{StoredRow}
use Rattle.kdb_cells.specs.declared.units.StoredRow.TheVariants.{Princ, Policy}
use Rattle.kdb_cells.specs.Cells.{Cell}
use Rattle.kdb_cells.specs.Sheets.{Sheet, count_of, sheet_in}
use Rattle.kdb_cells.specs.Changes.{rows_of, cell_no}
use Rattle.kdb_cells.specs.FileCells.{AreCellsOf, MayStand}
use Rattle.kdb_cells.specs.Leads.{Units, IsLeastFree}
use Rattle.kdb_cells.specs.Scanning.{skipping}
use Rattle.store_files.specs.Found.{Found, unit_changed, left_by, with_unit, redone, last_of, stash_in, found_in}

-- ---- what stands

abbrev pub last_in : Found → Logged
last_in o = last_of o.control.base o.held

-- The unit holds this cell. Where there is no unit, the cell is free.
abbrev pub HasCell : Option ℕ → Cell → List Cell → Type 0
HasCell None c cells = c ≡ None
HasCell (Some i) c cells = (i < length cells) × (cell_no i cells ≡ c)

-- the last entry's unit holds what the entry leaves in it
abbrev pub IsDone : Found → Type 0
IsDone o = HasCell (unit_changed (last_in o)) (left_by (last_in o).entry.op) o.sheet.cells

-- The files of a choice are apart, and its log may hold an entry.
pub record HasFiles (choice : Choice) : Type 0 where
  pub image : choice.image ≢ 0
  pub log : choice.log ≢ 0
  pub apart : choice.log ≢ choice.image
  pub stash : choice.stash ≢ 0 → (choice.stash ≢ choice.log) × (choice.stash ≢ choice.image)
  pub size : 0 < choice.size

-- The files that the choice names hold this, whatever is in force.
pub record Would (o : Found) (files : Files) : Type 0 where
  pub log : log_in o.control.format o.control.base o.control.size o.control.block (files o.control.log) ≡ Ok o.held
  pub sheet : sheet_in o.control.format (files o.control.image) ≡ Ok o.sheet
  pub stash : stash_in o.control files ≡ o.stash

-- And the choice is in force. Each unit is as it is to be.
pub record StandsOnDisk (o : Found) (files : Files) : Type 0 where
  pub force : in_force (files 0) ≡ Is o.control
  pub would : Would o files

-- Whatever a crash leaves holds this.
pub record Holds (o : Found) (now : View) : Type 0 where
  pub done : IsDone o
  pub files : HasFiles o.control
  pub each : (c : Files) → now.images c → StandsOnDisk o c

-- ---- one change

-- the cell may stand in the unit; where there is no unit, it is free
abbrev pub MayChange : ℕ → Option ℕ → Cell → List Cell → Type 0
MayChange format None c cells = c ≡ None
MayChange format (Some i) c cells = MayStand format i c cells

-- what the files hold after one change
abbrev pub after : Logged → Found → Found
after l o = record {
  control = o.control;
  held = newest o.control.size (o.held ++ l ∷ []);
  sheet = record { realm = o.sheet.realm; cells = redone l o.sheet.cells };
  stash = o.stash;
}

-- The entry is open in the log, and its unit may have any bytes.
pub record Pending (l : Logged) (o : Found) (files : Files) : Type 0 where
  pub force : in_force (files 0) ≡ Is o.control
  pub log : log_in o.control.format o.control.base o.control.size o.control.block (files o.control.log)
      ≡ Ok (newest o.control.size (o.held ++ l ∷ []))
  pub within : l.cell ≤ count_of o.control.format (files o.control.image)
  pub sheet : sheet_in o.control.format (skipping o.control.format (unit_changed l) (files o.control.image))
      ≡ Ok (record { realm = o.sheet.realm; cells = with_unit (unit_changed l) None o.sheet.cells })
  pub stash : stash_in o.control files ≡ o.stash

-- the files are found to be as before, or as after the change
abbrev pub FindsEither : Found → Found → Files → Type 0
FindsEither before after files = (found_in files ≡ Ok before) ⊎ (found_in files ≡ Ok after)

-- ---- the unit of a change

-- the cell has the row of a principal, of a policy, of this name
abbrev pub has_princ : List ℕ → Cell → Bool
has_princ name None = false
has_princ name (Some (Princ p)) = bytes_eq p.name name
has_princ name (Some (Policy p)) = false

abbrev pub has_policy : List ℕ → Cell → Bool
has_policy name None = false
has_policy name (Some (Princ p)) = false
has_policy name (Some (Policy p)) = bytes_eq p.name name

-- the cell has the row that the change is about
abbrev pub has_old : Op → Cell → Bool
has_old (PutPrinc p) c = has_princ p.name c
has_old (DropPrinc name) c = has_princ name c
has_old (Rename old p) c = has_princ old c
has_old (PutPolicy p) c = has_policy p.name c
has_old (DropPolicy name) c = has_policy name c

-- The row that the change is about stands in the unit or nowhere, and no other row stands in the unit.
pub record IsUnitFor (op : Op) (unit : Option ℕ) (cells : List Cell) : Type 0 where
  pub others : (j : ℕ) → unit ≢ Some j → has_old op (cell_no j cells) ≡ false
  pub own : (i : ℕ) (r : StoredRow) → unit ≡ Some i → cell_no i cells ≡ Some r → has_old op (Some r) ≡ true

-- The unit that is given for a key: its own, or the least one to which no key leads, in the file or the next one.
pub record IsGivenFor (key : List ℕ) (i : ℕ) (u : Units) : Type 0 where
  pub from : 1 ≤ i
  pub within : i ≤ u.next
  pub own : (j : ℕ) → u.of key ≡ Some j → i ≡ j
  pub new : u.of key ≡ None → IsLeastFree i u

-- The rows in memory are those of the cells to which the index leads.
pub record AreRowCells (u : Units) (cells : List Cell) (rows : RowLists) : Type 0 where
  pub are : AreCellsOf u cells
  pub rows_is : rows_of cells ≡ rows
  pub sound : AreRows rows

-- The entry is a change of this database, in a unit that it may change.
pub record IsChange (o : Found) (l : Logged) : Type 0 where
  pub fits : MayChange o.control.format (unit_changed l) (left_by l.entry.op) o.sheet.cells
  pub newer : o.control.format ≡ 2

-- A log in memory is that of what is found, whatever is prepared.
pub record IsLogOf (log : Journal) (o : Found) : Type 0 where
  pub file_is : log.file ≡ o.control.log
  pub base_is : log.base ≡ o.control.base
  pub size_is : log.size ≡ o.control.size
  pub block_is : log.block ≡ o.control.block
  pub held_is : log.held ≡ o.held

-- nothing of the change is done, or its entry is open
abbrev pub IsUnderWay : Logged → Found → Files → Type 0
IsUnderWay l o files = StandsOnDisk o files ⊎ Pending l o files
