use Rattle.first_rows.proofs.Shown.{first_shows}
use Rattle.first_rows.proofs.laws.first_rows_show_the_first_state.Goals as goal

pub returns : goal.returns
returns c = first_shows
