-- Rows written anew in the other file of cells, with a log begun anew in the other log file.
use Rattle.std.specs.Prelude.{◌≡◌, ◌≢◌, ◌<◌, ℕ, List, [], ◌∷◌}
use Rattle.kdb_base.specs.declared.moments.Point.{Point}
use Rattle.kdb_control.specs.Choice.{Choice}
use Rattle.kdb_control.specs.Force.{turn_after}
use Rattle.princ_rows.specs.Rows.{RowLists, AreRows}
use Rattle.update_log.specs.Logs.{Journal, marker_of}
use Rattle.kdb_cells.specs.CellFiles.{CellFile}
use Rattle.kdb_cells.specs.FileCells.{IsFileOf}
use Rattle.kdb_cells.specs.Sheets.{Sheet}
use Rattle.cell_files.specs.NewFiles.{NewCells, sheet_for}
use Rattle.kdb_places.specs.Places.{Place, log_anew, replaced}
use Rattle.store_files.specs.Found.{Found}
use Rattle.store_files.specs.Kept.{Kept}
use Rattle.store_files.specs.Switches.{IsSpareFor}

-- the choice that names both, and the files of which are of format 2
abbrev pub renewed_choice : ℕ → ℕ → Point → ℕ → ℕ → Choice → Choice
renewed_choice image log base size block c = record {
  format = 2;
  turn = turn_after c.turn;
  image = image;
  log = log;
  stash = c.stash;
  size = size;
  block = block;
  base = base;
}

-- what the files then hold
abbrev pub after_renewal : ℕ → ℕ → Point → ℕ → ℕ → Sheet → Found → Found
after_renewal image log base size block sheet o = record {
  control = renewed_choice image log base size block o.control;
  held = marker_of base ∷ [];
  sheet = sheet;
  stash = o.stash;
}

-- the place of it
abbrev pub place_renewed : Point → ℕ → ℕ → List ℕ → RowLists → Place → Place
place_renewed base size block realm rows p = log_anew base size block (replaced realm rows base p)

-- what is then kept
abbrev pub renewed : Choice → Journal → CellFile → List ℕ → RowLists → Kept → Kept
renewed control log cells realm rows k = record {
  control = control;
  log = log;
  cells = cells;
  rows = rows;
  realm = realm;
  stash = k.stash;
  broken = k.broken;
}

-- The next choice names the other file of cells and the other log, and else what this one names.
pub record IsRenewal (now next : Choice) : Type 0 where
  pub next_is : next ≡ renewed_choice next.image next.log next.base next.size next.block now
  pub image : IsSpareFor now next.image
  pub log : IsSpareFor now next.log
  pub apart : next.log ≢ next.image
  pub some : 0 < next.size

-- What is to be written is a file of these rows, of format 2.
pub record HasRows (realm : List ℕ) (rows : RowLists) (image : NewCells) : Type 0 where
  pub format_is : image.cells.format ≡ 2
  pub cells : IsFileOf image.cells (sheet_for realm rows) image.content
  pub sound : AreRows rows
