use Rattle.primary_events.proofs.Made.{creation_returns, creation_stops, none_comes}
use Rattle.primary_events.proofs.laws.creations_are_events.Goals as goal

pub returns-clause-returned : goal.returns-clause-returned
returns-clause-returned c = creation_returns

pub returns-clause-stopped : goal.returns-clause-stopped
returns-clause-stopped c = creation_stops

pub returns-clause-none : goal.returns-clause-none
returns-clause-none c = none_comes
