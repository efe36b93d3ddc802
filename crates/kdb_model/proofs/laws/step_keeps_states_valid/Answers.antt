use Rattle.kdb_model.proofs.Stepping.{step_realm}
use Rattle.kdb_model.proofs.ValidSteps.{step_point, step_valid}
use Rattle.kdb_model.proofs.laws.step_keeps_states_valid.Goals as goal

pub returns-clause-valid : goal.returns-clause-valid
returns-clause-valid c = λ s call h. step_valid s call h c.valid_later.ensures.later

pub returns-clause-point : goal.returns-clause-point
returns-clause-point c = step_point

pub returns-clause-realm : goal.returns-clause-realm
returns-clause-realm c = step_realm
