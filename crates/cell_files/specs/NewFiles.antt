-- A file of cells that is written anew: a unit for each row, in the rows' order.
use Rattle.std.specs.Prelude.{ℕ, ◌-◌, List, ◌∷◌, ◌++◌, length, map, Some, None}
use Rattle.std.specs.List.{flat_map}
use Rattle.kdb_base.specs.declared.moments.Point.{Point}
use Rattle.kdb_format.specs.Spellings.{zeros}
use Rattle.princ_rows.specs.Rows.{RowLists}
use Rattle.kdb_cells.specs.declared.units.StoredRow.{StoredRow}
use Rattle.kdb_cells.specs.declared.units.StoredRow.TheVariants.{Princ, Policy}
use Rattle.kdb_cells.specs.Cells.{Cell, unit_size, unit_text}
use Rattle.kdb_cells.specs.CellFiles.{CellFile}
use Rattle.kdb_cells.specs.Sheets.{Sheet, heading}

-- the rows, the principals first
abbrev pub stored_rows : RowLists → List StoredRow
stored_rows r = map (λ p. Princ p) r.princs ++ map (λ p. Policy p) r.policies

abbrev pub with_row : StoredRow → Cell
with_row r = Some r

-- what the file holds; no row stands in the first unit
abbrev pub sheet_for : List ℕ → RowLists → Sheet
sheet_for realm r = record { realm = realm; cells = None ∷ map with_row (stored_rows r) }

-- ---- its bytes

-- the first unit: the realm, the point at which the file is made, and zeros to its end
unfoldable pub first_unit : ℕ → List ℕ → Point → List ℕ
first_unit format realm made =
    heading format realm made ++ zeros (unit_size format - length (heading format realm made))

abbrev pub row_unit : ℕ → StoredRow → List ℕ
row_unit format r = unit_text format (Some r)

unfoldable pub file_text : ℕ → List ℕ → Point → RowLists → List ℕ
file_text format realm made r = first_unit format realm made ++ flat_map (row_unit format) (stored_rows r)

-- ---- a file that is not written yet

-- its cells, and the bytes that are to be written
pub record NewCells : Type 0 where
  pub cells : CellFile
  pub content : List ℕ
