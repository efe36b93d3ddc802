use Rattle.primary_events.proofs.Coming.{call_stops, comes_quiet, crash_comes, made_stops, own_stops}
use Rattle.primary_events.proofs.laws.calls_stop.Goals as goal

pub returns-clause-stopped : goal.returns-clause-stopped
returns-clause-stopped c = call_stops

pub returns-clause-between : goal.returns-clause-between
returns-clause-between c = crash_comes

pub returns-clause-quiet : goal.returns-clause-quiet
returns-clause-quiet c = comes_quiet

pub returns-clause-own : goal.returns-clause-own
returns-clause-own c = own_stops

pub returns-clause-made : goal.returns-clause-made
returns-clause-made c = made_stops
