use Rattle.world_laws.proofs.Rising.{rises}
use Rattle.world_laws.proofs.laws.points_rise_strictly.Goals as goal

pub returns : goal.returns
returns c = rises (record { later = c.valid_later.ensures.later; point = c.valid_later.ensures.point })
