-- What is read of the files of a database that is opened, what is written again, and what an opening answers.
use Rattle.std.specs.Prelude.{◌≡◌, ◌≤◌, ◌⊎◌, ℕ, true, List, length, Result, Ok, Err}
use Rattle.std.specs.List.{All}
use Rattle.kdb_base.specs.declared.outcomes.Refusal.{Refusal}
use Rattle.kdb_base.specs.declared.outcomes.Refusal.TheVariants.{NotADatabase, Damaged}
use Rattle.kdb_base.specs.declared.outcomes.Stop.{Stop}
use Rattle.kdb_base.specs.declared.outcomes.Stop.TheVariants.{Refused, Halt}
use Rattle.kdb_control.specs.Choice.{Choice}
use Rattle.kdb_control.specs.Force.{in_force}
use Rattle.kdb_control.specs.declared.force.Force.TheVariants.{Is}
use Rattle.kdb_disk.specs.Files.{Files}
use Rattle.princ_rows.specs.declared.entries.Logged.{Logged}
use Rattle.update_log.specs.Logs.{Journal, IsJournal, log_of}
use Rattle.update_log.specs.Runs.{stands_in, log_in}
use Rattle.kdb_cells.specs.Cells.{Cell}
use Rattle.kdb_cells.specs.CellFiles.{units, count}
use Rattle.kdb_cells.specs.Changes.{rows_of}
use Rattle.kdb_cells.specs.Scanning.{skipping, IsGathered}
use Rattle.kdb_cells.specs.Sheets.{Sheet, count_of, sheet_in}
use Rattle.kdb_cells.specs.declared.files.Scanned.{Scanned}
use Rattle.kdb_places.specs.Places.{Place}
use Rattle.store_files.specs.Found.{unit_changed, left_by, redone, is_placed, last_of}
use Rattle.store_files.specs.Kept.{HasChosen}
use Rattle.store_files.specs.Standing.{HasFiles, MayChange}
use Rattle.store_opening.specs.declared.looking.Again.{Again}
use Rattle.store_opening.specs.declared.unit_writes.UnitWrite.{UnitWrite}
use Rattle.store_opening.specs.declared.unit_writes.UnitWrite.TheVariants.{Nothing}
use Rattle.store_opening.specs.Parts.{kept_of}
use Rattle.store_opening.specs.Redoing.{IsLookedAt}
use Rattle.store_opening.specs.Writes.{number_of, WritesIn, IsGivenTo, MayWrite, HoldsCells}

-- ---- the answer

-- a database is not there, or a file is damaged at some place
abbrev pub IsUnopened : Refusal → Type 0
IsUnopened refusal = (refusal ≡ NotADatabase) ⊎ ((file : ℕ) × ((place : ℕ) × (refusal ≡ Damaged file place)))

-- an opening is refused so, or halts
abbrev pub StopsOpening : Stop → Type 0
StopsOpening (Refused refusal) = IsUnopened refusal
StopsOpening (Halt halt) = Unit {0}

-- what was opened has the place that was found, and a refusal is why none was found
abbrev pub AnswersFound : {A : Type 0} → (A → Place) → Result A Stop → Result Place Refusal → Type 0
AnswersFound place (Ok opened) found = found ≡ Ok (place opened)
AnswersFound place (Err (Refused refusal)) found = found ≡ Err refusal
AnswersFound place (Err (Halt halt)) found = Unit {0}

-- ---- the control file and the log

abbrev pub last_read : Choice → Journal → Logged
last_read choice log = last_of choice.base log.held

-- A choice of files and a log hang together, whatever a disk tells.
pub record IsHeaded (choice : Choice) (log : Journal) : Type 0 where
  pub log_is : log ≡ log_of choice.log choice.base choice.size choice.block log.held
  pub stands : All (λ l. stands_in choice.format l ≡ true) log.held
  pub journal : IsJournal log
  pub files : HasFiles choice

-- The choice is in force, and the log is the one that the files hold.
pub record IsHeadOf (choice : Choice) (log : Journal) (files : Files) : Type 0 where
  pub force : in_force (files 0) ≡ Is choice
  pub held : log_in choice.format choice.base choice.size choice.block (files choice.log) ≡ Ok log.held

-- ---- the cells

-- These cells are those that were read, with the last entry's unit passed over, and what the entry leaves may stand in
-- it.
pub record IsFitting (choice : Choice) (last : Logged) (s : Scanned) (cells : List Cell) : Type 0 where
  pub file_is : s.cells.file ≡ choice.image
  pub format_is : s.cells.format ≡ choice.format
  pub gathered : IsGathered choice.format (units s.cells) (count s.cells) s.princs.items s.policies.items cells
  pub given : (units s.cells).placed ≡ unit_changed last
  pub placed : is_placed (unit_changed last) (left_by last.entry.op) cells ≡ true

-- The file of cells holds these cells, with the last entry's unit passed over, which it has or which is the next one.
pub record IsSheetOf (choice : Choice) (last : Logged) (sheet : Sheet) (files : Files) : Type 0 where
  pub within : last.cell ≤ count_of choice.format (files choice.image)
  pub sheet_is : sheet_in choice.format (skipping choice.format (unit_changed last) (files choice.image)) ≡ Ok sheet

abbrev pub sheet_read : Scanned → List Cell → Sheet
sheet_read s cells = record { realm = s.realm; cells = cells }

-- What was read of a file of cells: where the disk tells, its cells and the unit that was passed over.
pub record AreCells (told : Type 0) (choice : Choice) (last : Logged) (s : Scanned) (files : Files) : Type 0 where
  pub cells : List Cell
  pub gathered : IsGathered choice.format (units s.cells) (count s.cells) s.princs.items s.policies.items cells
  pub given : told → (units s.cells).placed ≡ unit_changed last
  pub read : told → IsSheetOf choice last (sheet_read s cells) files

-- And what the last entry leaves may stand in that unit.
pub record AreFitting (told : Type 0) (choice : Choice) (last : Logged) (s : Scanned) (files : Files) : Type 0 where
  pub cells : List Cell
  pub fitting : IsFitting choice last s cells
  pub read : told → IsSheetOf choice last (sheet_read s cells) files

-- ---- what is written again

-- It is what an entry leaves in the unit of this number, or nothing where the number is 0.
pub record IsLeft (format cell : ℕ) (left : Cell) (w : UnitWrite) : Type 0 where
  pub number_is : number_of w ≡ cell
  pub writes : WritesIn format w left
  pub nothing : cell ≡ 0 → w ≡ Nothing

abbrev pub last_again : Again → Logged
last_again a = last_read a.parts.control a.parts.log

-- The index leads to these cells, of which the last entry's unit is free, and the rows are those that there are once
-- the entry is done again.
pub record IsAgain (a : Again) (cells : List Cell) : Type 0 where
  pub chosen : HasChosen (kept_of a.parts)
  pub files : HasFiles a.parts.control
  pub holds : HoldsCells a.parts.cells cells
  pub rows_is : rows_of (redone (last_again a) cells) ≡ a.parts.rows
  pub left : IsLeft a.parts.control.format (last_again a).cell (left_by (last_again a).entry.op) a.write
  pub within : number_of a.write ≤ length cells
  pub given : IsGivenTo a.write a.parts.cells
  pub may : MayWrite a.write a.parts.cells
  pub stands : MayChange a.parts.control.format (unit_changed (last_again a)) (left_by (last_again a).entry.op) cells

-- the files hold these cells, with the last entry's unit passed over
abbrev pub IsLooked : Again → List Cell → Files → Type 0
IsLooked a cells files =
    IsLookedAt a.parts.control a.parts.log.held (last_again a)
    (record { realm = a.parts.realm; cells = cells }) a.parts.stash files

-- What was read of the files, and what is to be written.
pub record AreLooked (told : Type 0) (a : Again) (files : Files) : Type 0 where
  pub cells : List Cell
  pub again : IsAgain a cells
  pub read : told → IsLooked a cells files
