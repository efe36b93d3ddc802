-- Limit by limit.
use Rattle.princ_name.proofs.OwnNames.{test_holds, holds_test}
use Rattle.princ_name.proofs.laws.limits_are_tested.Goals as goal

pub returns : goal.returns
returns c = λ name. (test_holds name, holds_test name)
