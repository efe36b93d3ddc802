use Rattle.kdb_worlds.proofs.Example.{first_run}
use Rattle.kdb_worlds.proofs.laws.worlds_run.Goals as goal

pub returns : goal.returns
returns c = first_run
