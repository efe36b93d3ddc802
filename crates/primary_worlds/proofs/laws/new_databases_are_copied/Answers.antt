use Rattle.primary_worlds.proofs.Created.{created_copied}
use Rattle.primary_worlds.proofs.laws.new_databases_are_copied.Goals as goal

pub returns : goal.returns
returns c = created_copied
