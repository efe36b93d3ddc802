use Rattle.kdb_histories.proofs.Bridging.{returned, stopped}
use Rattle.kdb_histories.proofs.laws.calls_are_events.Goals as goal

pub returns-clause-stopped : goal.returns-clause-stopped
returns-clause-stopped c = stopped

pub returns-clause-returned : goal.returns-clause-returned
returns-clause-returned c = returned
