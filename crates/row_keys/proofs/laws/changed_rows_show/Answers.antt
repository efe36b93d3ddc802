use Rattle.row_keys.proofs.Effects.{change_shows_at, ordinary_spares}
use Rattle.row_keys.proofs.laws.changed_rows_show.Goals as goal

pub returns-clause-shows : goal.returns-clause-shows
returns-clause-shows c = change_shows_at

pub returns-clause-ordinary : goal.returns-clause-ordinary
returns-clause-ordinary c = ordinary_spares
