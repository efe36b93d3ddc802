use Rattle.cell_files.proofs.KeptRows.{rows_kept}
use Rattle.cell_files.proofs.laws.rows_are_kept.Goals as goal

pub returns : goal.returns
returns c = rows_kept
