use Rattle.primary_events.proofs.Returning.{ask_returns, call_returns, line_returns}
use Rattle.primary_events.proofs.Returning.{load_returns, reset_returns, stash_returns}
use Rattle.primary_events.proofs.laws.calls_return.Goals as goal

pub returns-clause-made : goal.returns-clause-made
returns-clause-made c = call_returns

pub returns-clause-asked : goal.returns-clause-asked
returns-clause-asked c = ask_returns

pub returns-clause-stashed : goal.returns-clause-stashed
returns-clause-stashed c = stash_returns

pub returns-clause-reset : goal.returns-clause-reset
returns-clause-reset c = reset_returns

pub returns-clause-loaded : goal.returns-clause-loaded
returns-clause-loaded c = load_returns

pub returns-clause-stash_line : goal.returns-clause-stash_line
returns-clause-stash_line c = line_returns
