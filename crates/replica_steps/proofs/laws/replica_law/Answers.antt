use Rattle.replica_steps.proofs.ReplicaRuns.{event_copies, replica_copies, replica_more}
use Rattle.replica_steps.proofs.laws.replica_law.Goals as goal

pub returns-clause-holds : goal.returns-clause-holds
returns-clause-holds c = replica_copies

pub returns-clause-event : goal.returns-clause-event
returns-clause-event c = event_copies

pub returns-clause-more : goal.returns-clause-more
returns-clause-more c = replica_more
