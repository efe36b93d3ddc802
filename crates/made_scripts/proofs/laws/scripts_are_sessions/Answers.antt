use Rattle.made_scripts.proofs.Realms.{same_end, same_left}
use Rattle.made_scripts.proofs.laws.scripts_are_sessions.Goals as goal

pub returns-clause-at : goal.returns-clause-at
returns-clause-at c = λ lines p. same_end lines p

pub returns-clause-draws : goal.returns-clause-draws
returns-clause-draws c = λ lines p. same_left lines p
