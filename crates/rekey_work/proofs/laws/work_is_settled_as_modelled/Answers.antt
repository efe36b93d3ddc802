use Rattle.rekey_work.proofs.Modelled.{settled_as_modelled}
use Rattle.rekey_work.proofs.laws.work_is_settled_as_modelled.Goals as goal

pub returns : goal.returns
returns c = settled_as_modelled
