use Rattle.primary_events.proofs.Shown.{as_world, comes_in}
use Rattle.primary_events.proofs.laws.histories_are_runs.Goals as goal
use Rattle.primary_events.specs.Coming.{IsQuiet}

pub returns-clause-runs : goal.returns-clause-runs
returns-clause-runs c = λ w own s sent run. as_world own w s sent run

pub returns-clause-comes : goal.returns-clause-comes
returns-clause-comes c = comes_in IsQuiet
