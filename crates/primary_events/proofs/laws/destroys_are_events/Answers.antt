use Rattle.primary_events.proofs.Coming.{end_comes, may_end}
use Rattle.primary_events.proofs.laws.destroys_are_events.Goals as goal
use Rattle.std.proofs.Common.{refl}

pub returns-clause-happens : goal.returns-clause-happens
returns-clause-happens c = λ s at. record { at = at; is = refl; silent = refl }

pub returns-clause-stopped : goal.returns-clause-stopped
returns-clause-stopped c = may_end

pub returns-clause-none : goal.returns-clause-none
returns-clause-none c = end_comes
