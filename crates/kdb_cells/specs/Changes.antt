-- The rows that cells hold, and what a change does to one cell.
use Rattle.std.specs.Prelude.{ℕ, zero, suc, List, [], ◌∷◌, Some, None}
use Rattle.princ_rows.specs.Rows.{RowLists}
use Rattle.princ_rows.specs.Effects.{put_princ, drop_princ, put_policy, drop_policy}
use Rattle.princ_rows.specs.declared.entries.Op.{Op}
use Rattle.princ_rows.specs.declared.entries.Op.TheVariants.{PutPrinc, DropPrinc, Rename, PutPolicy, DropPolicy}
use Rattle.kdb_cells.specs.declared.units.StoredRow.TheVariants.{Princ, Policy}
use Rattle.kdb_cells.specs.Cells.{Cell}

abbrev pub add_row : Cell → RowLists → RowLists
add_row None r = r
add_row (Some (Princ p)) r = put_princ p r
add_row (Some (Policy p)) r = put_policy p r

abbrev pub leave_row : Cell → RowLists → RowLists
leave_row None r = r
leave_row (Some (Princ p)) r = drop_princ p.name r
leave_row (Some (Policy p)) r = drop_policy p.name r

-- the rows of cells, in the order of their keys
unfoldable pub rows_of : List Cell → RowLists
rows_of [] = record { princs = []; policies = [] }
rows_of (c ∷ cells) = add_row c (rows_of cells)

-- what a change leaves in its cell
abbrev pub cell_after : Op → Cell
cell_after (PutPrinc p) = Some (Princ p)
cell_after (DropPrinc name) = None
cell_after (Rename old p) = Some (Princ p)
cell_after (PutPolicy p) = Some (Policy p)
cell_after (DropPolicy name) = None

-- the cell of this number; past the last one it is free
unfoldable pub cell_no : ℕ → List Cell → Cell
cell_no i [] = None
cell_no zero (c ∷ cells) = c
cell_no (suc i) (c ∷ cells) = cell_no i cells
