use Rattle.world_laws.proofs.Example.{example}
use Rattle.world_laws.proofs.laws.runs_are_there.Goals as goal

pub returns : goal.returns
returns c = example (record { later = c.valid_later.ensures.later; point = c.valid_later.ensures.point })
