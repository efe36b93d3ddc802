-- What the files of a disk stand for.
use Rattle.std.specs.Prelude.{ℕ, ◌*◌, ◌-◌, Bool, true, false, ◌&&◌, not, nat_eq, nat_lt, if◌then◌else◌}
use Rattle.std.specs.Prelude.{List, length, map, slice_index_or, Option, Some, None, Result, Ok, Err}
use Rattle.kdb_base.specs.Limits.{most_rows}
use Rattle.kdb_base.specs.declared.moments.Point.{Point}
use Rattle.kdb_base.specs.declared.outcomes.Refusal.{Refusal}
use Rattle.kdb_base.specs.declared.outcomes.Refusal.TheVariants.{NotADatabase, Damaged}
use Rattle.kdb_disk.specs.Files.{Files}
use Rattle.kdb_control.specs.Choice.{Choice}
use Rattle.kdb_control.specs.Force.{in_force}
use Rattle.kdb_control.specs.declared.force.Force.{Force}
use Rattle.kdb_control.specs.declared.force.Force.TheVariants.{Nothing, Is, Broken}
use Rattle.princ_rows.specs.declared.entries.Op.{Op}
use Rattle.princ_rows.specs.declared.entries.Logged.{Logged}
use Rattle.update_log.specs.Slots.{slot_of}
use Rattle.update_log.specs.Logs.{marker_of, entry_of}
use Rattle.update_log.specs.Runs.{log_in}
use Rattle.kdb_cells.specs.Cells.{Cell}
use Rattle.kdb_cells.specs.Sheets.{Sheet, clashes, taken, count_of, set_cell, sheet_in}
use Rattle.kdb_cells.specs.Changes.{rows_of, cell_after}
use Rattle.kdb_cells.specs.Scanning.{skipping}
use Rattle.kdb_places.specs.Places.{Place}

-- What is known of the files of a database: the choice of files in force, the entries that its log holds, the realm and
-- the cells of its rows, with the last entry done again, and the stash.
pub record Found : Type 0 where
  pub control : Choice
  pub held : List Logged
  pub sheet : Sheet
  pub stash : Option (List ℕ)

-- ---- the last entry

-- the unit that an entry changes, by the number that it carries
abbrev pub unit_numbered : ℕ → Option ℕ
unit_numbered cell = if nat_eq cell 0 then None else Some cell

abbrev pub unit_changed : Logged → Option ℕ
unit_changed l = unit_numbered l.cell

-- what an entry leaves in its unit
abbrev pub left_by : Option Op → Cell
left_by None = None
left_by (Some op) = cell_after op

-- the cells with this one in the unit, where there is a unit
abbrev pub with_unit : Option ℕ → Cell → List Cell → List Cell
with_unit None c cells = cells
with_unit (Some i) c cells = set_cell i c cells

-- the cells where the entry is done
abbrev pub redone : Logged → List Cell → List Cell
redone l cells = with_unit (unit_changed l) (left_by l.entry.op) cells

-- What an entry leaves may stand in its unit, beside the cells of the other units: a row has a unit, its key is that of
-- no other row, and there are not too many.
abbrev pub is_placed : Option ℕ → Cell → List Cell → Bool
is_placed unit None cells = true
is_placed None (Some r) cells = false
is_placed (Some i) (Some r) cells = not (clashes (Some r) cells) && nat_lt (taken cells) most_rows

-- the last of the entries that a log holds, of which there is always one
abbrev pub last_of : Point → List Logged → Logged
last_of base held = slice_index_or held (length held - 1) (marker_of base)

-- ---- the files

-- the bytes of the stash file, where the choice names one
unfoldable pub stash_in : Choice → Files → Option (List ℕ)
stash_in choice files = if nat_eq choice.stash 0 then None else Some (files choice.stash)

-- the place of the last entry's slot in the log's file
abbrev pub last_place : Choice → Logged → ℕ
last_place choice last = slot_of choice.base choice.size last.entry.point.sno * choice.block

abbrev pub found_done : Choice → List Logged → Option (List ℕ) → Logged → Result Sheet ℕ → Result Found Refusal
found_done choice held stash last (Err place) = Err (Damaged choice.image place)
found_done choice held stash last (Ok sheet) =
    if is_placed (unit_changed last) (left_by last.entry.op) sheet.cells
    then Ok (record {
      control = choice;
      held = held;
      sheet = record { realm = sheet.realm; cells = redone last sheet.cells };
      stash = stash;
    })
    else Err (Damaged choice.log (last_place choice last))

-- The last entry is done again in its unit, which lies in the file or is the next one. The unit may have any bytes.
unfoldable pub found_last : Choice → List Logged → Option (List ℕ) → Logged → List ℕ → Result Found Refusal
found_last choice held stash last file =
    if nat_lt (count_of choice.format file) last.cell then Err (Damaged choice.log (last_place choice last))
    else found_done choice held stash last (sheet_in choice.format (skipping choice.format (unit_changed last) file))

abbrev pub found_log : Choice → Files → Result (List Logged) ℕ → Result Found Refusal
found_log choice files (Err place) = Err (Damaged choice.log place)
found_log choice files (Ok held) =
    found_last choice held (stash_in choice files) (last_of choice.base held) (files choice.image)

abbrev pub found_by : Force → Files → Result Found Refusal
found_by Nothing files = Err NotADatabase
found_by (Broken place) files = Err (Damaged 0 place)
found_by (Is choice) files =
    found_log choice files (log_in choice.format choice.base choice.size choice.block (files choice.log))

-- The newer open control slot names the files and their format. The log's open slots hold entries that run on to the
-- last, and the last so many are held. The rows are those of the units, with the last entry done again in its unit.
-- What breaks its grammar is damaged at its place: the control file first, then the log, the number of the last entry's
-- unit, the cells, and the last entry against them. A stash is any bytes, and never damaged.
unfoldable pub found_in : Files → Result Found Refusal
found_in files = found_by (in_force (files 0)) files

-- ---- places

-- the place in the history of a database
abbrev pub place_of : Found → Place
place_of o = record {
  realm = o.sheet.realm;
  rows = rows_of o.sheet.cells;
  held = map entry_of o.held;
  stash = o.stash;
  size = o.control.size;
  block = o.control.block;
  format = o.control.format;
}

abbrev pub place_in : Result Found Refusal → Result Place Refusal
place_in (Ok found) = Ok (place_of found)
place_in (Err refusal) = Err refusal

-- the place that the files stand for, or why they stand for none
abbrev pub recovers : Files → Result Place Refusal
recovers files = place_in (found_in files)
