use Rattle.kdb_worlds.proofs.Primaries.{site_run}
use Rattle.kdb_worlds.proofs.laws.runs_have_histories.Goals as goal
use Rattle.kdb_worlds.specs.Worlds.{no_world}
use Rattle.std.proofs.Common.{[]}

pub returns : goal.returns
returns c = λ events w run. site_run events no_world w [] run
