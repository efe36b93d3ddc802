use Rattle.std.proofs.Common.{refl}
use Rattle.first_rows.specs.Creation.{first_state}
use Rattle.first_rows.proofs.Valid.{first_valid}
use Rattle.first_rows.proofs.laws.first_state_is_valid.Goals as goal

pub returns-clause-realm : goal.returns-clause-realm
unfolding first_state
returns-clause-realm c = λ spec now random. refl

pub returns-clause-point : goal.returns-clause-point
unfolding first_state
returns-clause-point c = λ spec now random. refl

pub returns-clause-valid : goal.returns-clause-valid
returns-clause-valid c = first_valid
