use Rattle.std.proofs.Common.{false}
use Rattle.replica_events.proofs.Falling.{falls_join, opening_falls, own_fall, own_falls_at}
use Rattle.replica_events.proofs.Falling.{own_opening, rest_falls, task_falls_at}
use Rattle.replica_events.proofs.laws.tasks_stop.Goals as goal

pub returns-clause-stopped : goal.returns-clause-stopped
returns-clause-stopped c =
    task_falls_at (λ sent r task after. c.tasks_are_events.ensures.stopped sent r task false after)

pub returns-clause-opening : goal.returns-clause-opening
returns-clause-opening c =
    opening_falls (λ sent r task after. c.tasks_are_events.ensures.stopped sent r task false after)

pub returns-clause-between : goal.returns-clause-between
returns-clause-between c = rest_falls

pub returns-clause-joined : goal.returns-clause-joined
returns-clause-joined c = falls_join

pub returns-clause-own : goal.returns-clause-own
returns-clause-own c = own_falls_at (λ sent r task after. c.tasks_are_events.ensures.stopped sent r task false after)

pub returns-clause-own_opening : goal.returns-clause-own_opening
returns-clause-own_opening c =
    own_opening (λ sent r task after. c.tasks_are_events.ensures.stopped sent r task false after)

pub returns-clause-falls : goal.returns-clause-falls
returns-clause-falls c = own_fall
