use Rattle.std.proofs.Common.{true}
use Rattle.replica_events.proofs.Leading.{opened_replica, task_done, task_stops}
use Rattle.replica_events.proofs.laws.tasks_return.Goals as goal

pub returns-clause-done : goal.returns-clause-done
returns-clause-done c = task_done

pub returns-clause-stopped : goal.returns-clause-stopped
returns-clause-stopped c = task_stops (λ sent r task after. c.tasks_are_events.ensures.stopped sent r task true after)

pub returns-clause-opened : goal.returns-clause-opened
returns-clause-opened c = opened_replica
