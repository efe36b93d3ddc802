-- What a change writes into its unit.
use Rattle.std.specs.Prelude.{◌≡◌, ◌≢◌, ◌≤◌, ℕ, [], ◌∷◌, ◌++◌, Some}
use Rattle.std.specs.List.{All}
use Rattle.princ_rows.specs.Rows.{RowLists}
use Rattle.princ_rows.specs.declared.entries.Op.{Op}
use Rattle.princ_rows.specs.declared.entries.Op.TheVariants.{PutPrinc, DropPrinc, Rename, PutPolicy, DropPolicy}
use Rattle.kdb_base.specs.declared.moments.Point.{Point}
use Rattle.kdb_cells.specs.Cells.{Cell}
use Rattle.kdb_cells.specs.CellFiles.{CellFile, units}
use Rattle.kdb_cells.specs.Changes.{cell_after}
use Rattle.princ_rows.specs.Entries.{key_of}
use Rattle.kdb_places.specs.Places.{change}
use Rattle.store_files.specs.Standing.{IsGivenFor}
use Rattle.update_log.specs.Logs.{Journal, newest}
use Rattle.kdb_cells.specs.Sheets.{last_unit}
use Rattle.kdb_cells.specs.Leads.{Units}
use Rattle.store_opening.specs.declared.unit_writes.UnitWrite.{UnitWrite}
use Rattle.store_opening.specs.Writes.{WritesIn}
pub use Rattle.store_opening.specs.Writes.{number_of, IsGivenTo, MayPut, MayWrite, IsWritten, HoldsCells, changed_sheet}

-- it writes this cell, in files of format 2
abbrev pub Writes : UnitWrite → Cell → Type 0
Writes w c = WritesIn 2 w c

-- no row has the name that the change drops
abbrev pub HasNoRow : Op → RowLists → Type 0
HasNoRow (PutPrinc p) rows = ⊥
HasNoRow (DropPrinc name) rows = All (λ q. q.name ≡ name → ⊥) rows.princs
HasNoRow (Rename old p) rows = ⊥
HasNoRow (PutPolicy p) rows = ⊥
HasNoRow (DropPolicy name) rows = All (λ q. q.name ≡ name → ⊥) rows.policies

-- An entry's unit: the one that is given for its key, or none, which is the number 0, where it drops what is not there,
-- and nowhere else.
pub record HasUnit (op : Op) (cell : ℕ) (u : Units) (rows : RowLists) : Type 0 where
  pub given : cell ≢ 0 → IsGivenFor (key_of (Some op)) cell u
  pub none : cell ≡ 0 → HasNoRow op rows
  pub only : HasNoRow op rows → cell ≡ 0

-- The log holds one entry more, that of the change at this point in its unit, and of the others the last ones.
pub record HasEntered (op : Op) (point : Point) (old new : Journal) (cells : CellFile) (rows : RowLists) : Type 0 where
  pub cell : ℕ
  pub unit : HasUnit op cell (units cells) rows
  pub held : new.held ≡ newest old.size (old.held ++ record { entry = change op point; cell = cell } ∷ [])

-- What is written for a change: into the unit that is given for its key, or nothing where it drops what is not there,
-- and nowhere else.
pub record IsPlan (w : UnitWrite) (op : Op) (u : Units) (rows : RowLists) : Type 0 where
  pub writes : Writes w (cell_after op)
  pub given : number_of w ≢ 0 → IsGivenFor (key_of (Some op)) (number_of w) u
  pub none : number_of w ≡ 0 → HasNoRow op rows
  pub only : HasNoRow op rows → number_of w ≡ 0
  pub near : number_of w ≤ last_unit
