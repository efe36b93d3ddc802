-- Rows written anew, with a log begun anew: what is to be written, and what is then kept.
use Rattle.std.specs.Prelude.{◌≡◌, ℕ, List}
use Rattle.kdb_base.specs.declared.moments.Point.{Point}
use Rattle.kdb_control.specs.Choice.{Choice}
use Rattle.princ_rows.specs.Rows.{RowLists}
use Rattle.update_log.specs.Logs.{Journal, begun}
use Rattle.kdb_cells.specs.CellFiles.{CellFile}
use Rattle.cell_files.specs.NewFiles.{file_text}
use Rattle.store_files.specs.Kept.{AreIndexed}
use Rattle.store_switches.specs.Renewed.{renewed_choice, HasRows}
use Rattle.kdb_store.specs.declared.replacing.Renewal.{Renewal}

-- The files that this choice names are to hold these rows, and a log that begins at its base.
pub record IsPlanned (next : Choice) (realm : List ℕ) (rows : RowLists) (plan : Renewal) : Type 0 where
  pub file_is : plan.image.cells.file ≡ next.image
  pub has_rows : HasRows realm rows plan.image
  pub content : plan.image.content ≡ file_text 2 realm next.base rows
  pub log_is : plan.log ≡ begun next.log next.base next.size next.block

-- The choice is the one that comes next, the log is begun at its base, and the index of its file of cells leads to
-- these rows.
pub record AreRenewed (base : Point) (size block : ℕ) (rows : RowLists) (old new : Choice) (log : Journal)
    (cells : CellFile) : Type 0 where
  pub control_is : new ≡ renewed_choice new.image new.log base size block old
  pub log_is : log ≡ begun new.log base size block
  pub file_is : cells.file ≡ new.image
  pub format_is : cells.format ≡ 2
  pub indexed : AreIndexed cells rows
