use Rattle.replica_steps.proofs.Bridging.{done, stopped}
use Rattle.replica_steps.proofs.laws.tasks_are_events.Goals as goal

pub returns-clause-stopped : goal.returns-clause-stopped
returns-clause-stopped c = stopped

pub returns-clause-done : goal.returns-clause-done
returns-clause-done c = done
