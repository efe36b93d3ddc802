use Rattle.store_files.proofs.Committing.{under_way_found}
use Rattle.store_files.proofs.laws.changes_are_whole.Goals as goal

pub returns : goal.returns
returns c = under_way_found
