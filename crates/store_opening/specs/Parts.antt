-- The parts of a database, as it is made or opened.
use Rattle.std.specs.Prelude.{◌≡◌, ◌≤◌, ℕ, List, Option, false}
use Rattle.update_log.specs.Logs.{begun, Journal}
use Rattle.kdb_control.specs.Choice.{Choice}
use Rattle.kdb_cells.specs.FileCells.{IsFileOf}
use Rattle.cell_files.specs.NewFiles.{NewCells, file_text, sheet_for}
use Rattle.store_files.specs.Kept.{Kept}
use Rattle.kdb_cells.specs.CellFiles.{CellFile}
use Rattle.princ_rows.specs.Rows.{AreRows}
use Rattle.store_opening.specs.declared.parts.Parts.{Parts}
use Rattle.store_opening.specs.declared.parts.Plan.{Plan}
use Rattle.store_opening.specs.Made.{Making, made_choice}

-- what is kept of them
abbrev pub kept_of : Parts → Kept
kept_of p = record {
  control = p.control;
  log = p.log;
  cells = p.cells;
  rows = p.rows;
  realm = p.realm;
  stash = p.stash;
  broken = false;
}

-- What is to be written is a file of these rows, the first of the files of cells, and a log that begins at this point,
-- the first of the logs.
pub record IsToBeMade (m : Making) (control : Choice) (image : NewCells) (log : Journal)
    (stash : Option (List ℕ)) : Type 0 where
  pub chosen : control ≡ made_choice m
  pub file : image.cells.file ≡ 1
  pub format_is : image.cells.format ≡ m.format
  pub cells : IsFileOf image.cells (sheet_for m.realm m.rows) image.content
  pub log_is : log ≡ begun 3 m.base m.size m.block
  pub stash_is : stash ≡ m.stash
  pub some : 2 ≤ m.size

-- What is kept of a database that was made so.
abbrev pub kept_made : Making → CellFile → Kept
kept_made m cells = record {
  control = made_choice m;
  log = begun 3 m.base m.size m.block;
  cells = cells;
  rows = m.rows;
  realm = m.realm;
  stash = m.stash;
  broken = false;
}

-- The plan is to make a database of these rows, and to keep them.
pub record IsPlan (m : Making) (plan : Plan) : Type 0 where
  pub made : IsToBeMade m plan.control plan.image plan.log m.stash
  pub content : plan.image.content ≡ file_text m.format m.realm m.base m.rows
  pub rows_are : plan.rows ≡ m.rows
  pub in_order : AreRows m.rows
  pub realm_is : plan.realm ≡ m.realm
  pub stash_is : plan.stash ≡ m.stash
