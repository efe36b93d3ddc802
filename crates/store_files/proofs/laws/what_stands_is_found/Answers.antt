use Rattle.store_files.proofs.Finding.{stands_found}
use Rattle.store_files.proofs.laws.what_stands_is_found.Goals as goal

pub returns : goal.returns
returns c = stands_found
