use Rattle.kdb_places.proofs.Points.{held_few}
use Rattle.kdb_places.proofs.laws.few_are_held.Goals as goal

pub returns : goal.returns
returns c = held_few
