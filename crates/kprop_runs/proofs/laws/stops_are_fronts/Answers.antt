use Rattle.kprop_runs.proofs.Fronting.{fronts}
use Rattle.kprop_runs.proofs.laws.stops_are_fronts.Goals as goal

pub returns : goal.returns
returns c = fronts
