use Rattle.kdb_model.proofs.SparedKeys.{change_spares}
use Rattle.kdb_model.proofs.laws.changes_spare_the_own_keys.Goals as goal

pub returns : goal.returns
returns c = change_spares
