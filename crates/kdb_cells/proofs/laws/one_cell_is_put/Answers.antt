use Rattle.kdb_cells.proofs.Sheeting.{put_sheet}
use Rattle.kdb_cells.proofs.laws.one_cell_is_put.Goals as goal

pub returns : goal.returns
returns c = λ format unit x file sheet is may. put_sheet format unit x file sheet is may
