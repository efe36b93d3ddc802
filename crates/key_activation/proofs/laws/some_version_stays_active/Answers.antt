use Rattle.key_activation.proofs.Latest.{still_some, none_before}
use Rattle.key_activation.proofs.laws.some_version_stays_active.Goals as goal

pub returns-clause-some : goal.returns-clause-some
returns-clause-some c = λ list early late le some none. still_some list early late le some none

pub returns-clause-none : goal.returns-clause-none
returns-clause-none c = λ list early late le none. none_before list early late le none
