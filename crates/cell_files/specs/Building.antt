-- How the index of a new file is built, and the bytes of its units, row by row.
use Rattle.std.specs.Prelude.{◌≡◌, ℕ, ◌+◌, ◌*◌, ◌^◌, ◌≤◌, ◌<◌, List, [], ◌∷◌, ◌++◌, length}
use Rattle.std.specs.List.{All, AllByRecursion, flat_map}
use Rattle.kdb_base.specs.Limits.{most_rows}
use Rattle.kdb_cells.specs.declared.units.StoredRow.{StoredRow}
use Rattle.kdb_cells.specs.Cells.{Cell, unit_with, kind_of, row_text, name_of, IsStored}
use Rattle.kdb_cells.specs.FileCells.{HasKey}
use Rattle.kdb_cells.specs.Indexes.{Index, units, count}
use Rattle.kdb_cells.specs.Scanning.{princs_of, policies_of, IsGathered}
use Rattle.kdb_cells.specs.Sheets.{last_unit, taken}
use Rattle.cell_files.specs.declared.texts.RowText.{RowText}
use Rattle.cell_files.specs.NewFiles.{with_row}

-- ---- the bytes of rows

abbrev pub text_of : StoredRow → RowText
text_of r = record { kind = kind_of r; row = row_text r }

-- the bytes of its unit
abbrev pub text_unit : ℕ → RowText → List ℕ
text_unit unit t = unit_with unit t.kind t.row

unfoldable pub text_units : ℕ → List RowText → List ℕ
text_units unit texts = flat_map (text_unit unit) texts

-- a unit has room for it
pub record HasUnit (unit : ℕ) (t : RowText) : Type 0 where
  pub counted : length t.row < 2 ^ 16
  pub room : 3 + length t.row ≤ unit

-- ---- the index

-- no cell has the key
abbrev pub NoneHas : List ℕ → List Cell → Type 0
NoneHas key cells = AllByRecursion (λ c. HasKey key c → ⊥) cells

-- The row may stand in the unit behind these cells.
pub record IsNext (format : ℕ) (r : StoredRow) (cells : List Cell) : Type 0 where
  pub stored : IsStored format r
  pub new : NoneHas (name_of r) cells
  pub few : taken cells < most_rows
  pub near : length cells ≤ last_unit

-- The rows may stand behind these cells, one after the other.
unfoldable pub MayFollow : ℕ → List StoredRow → List Cell → Type 0
MayFollow format [] cells = Unit {0}
MayFollow format (r ∷ rows) cells = IsNext format r cells × MayFollow format rows (cells ++ with_row r ∷ [])

-- The index leads to the rows of these cells, each in its unit.
abbrev pub IsBuilt : ℕ → Index → List Cell → Type 0
IsBuilt format x cells = IsGathered format (units x) (count x) (princs_of cells) (policies_of cells) cells

-- What is kept of a file that is to be written: a whole first unit, rows that have room in their units, and a page of a
-- few units.
pub record IsPage (unit : ℕ) (first : List ℕ) (texts : List RowText) (page : List ℕ) : Type 0 where
  pub first_long : length first ≡ unit
  pub page_long : 4 * unit ≤ length page
  pub few : length texts ≤ most_rows
  pub fits : All (HasUnit unit) texts
