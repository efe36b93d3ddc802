use Rattle.primary_events.proofs.Coming.{stops_join}
use Rattle.primary_events.proofs.laws.stops_join.Goals as goal
use Rattle.primary_events.specs.Coming.{IsQuiet, IsStop}

pub returns-clause-stops : goal.returns-clause-stops
returns-clause-stops c = stops_join IsStop

pub returns-clause-comes : goal.returns-clause-comes
returns-clause-comes c = stops_join IsQuiet
