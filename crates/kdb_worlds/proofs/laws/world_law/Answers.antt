use Rattle.kdb_worlds.proofs.Acknowledged.{run_among}
use Rattle.kdb_worlds.proofs.Ends.{lawful}
use Rattle.kdb_worlds.proofs.Runs.{world_holds}
use Rattle.kdb_worlds.proofs.laws.world_law.Goals as goal
use Rattle.std.proofs.Common.{[]}
use Rattle.kdb_worlds.specs.Worlds.{no_world}

pub returns-clause-lawful : goal.returns-clause-lawful
returns-clause-lawful c = λ events w run.
    lawful w
    (world_holds (record { later = c.valid_later.ensures.later; point = c.valid_later.ensures.point }) events w run)

pub returns-clause-acknowledged : goal.returns-clause-acknowledged
returns-clause-acknowledged c = λ events w run. run_among events no_world w [] tt run
