use Rattle.std.proofs.Common.{◌≡◌, ◌++◌, List, None, map, take, drop}
use Rattle.kdb_cells.specs.Cells.{Cell}
use Rattle.cell_files.specs.Building.{text_of, MayFollow, IsBuilt}
use Rattle.cell_files.specs.NewFiles.{with_row}
use Rattle.cell_files.proofs.building.add_rows.Given as goal

abbrev pub invariant-loop-item : goal.invariant-loop-item
invariant-loop-item g l = record {
  built : (cells : List Cell) → IsBuilt l.format l.fn.building.index cells
      → MayFollow l.format (map g.T.UnitRow.row_of l.items) cells
      → IsBuilt l.format l.building.index (cells ++ map with_row (map g.T.UnitRow.row_of (take l.item-index l.items)));
  follow : (cells : List Cell) → MayFollow l.format (map g.T.UnitRow.row_of l.items) cells
      → MayFollow l.format (map g.T.UnitRow.row_of (drop l.item-index l.items))
      (cells ++ map with_row (map g.T.UnitRow.row_of (take l.item-index l.items)));
  texts : l.building.texts.items
      ≡ l.fn.building.texts.items ++ map text_of (map g.T.UnitRow.row_of (take l.item-index l.items));
  placed : l.building.index.placed ≡ None;
}
