use Rattle.key_activation.proofs.Latest.{is_active, is_none}
use Rattle.key_activation.proofs.laws.active_is_one.Goals as goal

pub returns-clause-some : goal.returns-clause-some
returns-clause-some c = λ list secs version h. is_active list secs version h

pub returns-clause-none : goal.returns-clause-none
returns-clause-none c = λ list secs h. is_none list secs h
