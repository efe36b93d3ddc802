use Rattle.plain_keys.proofs.Blocks.{once_drawn}
use Rattle.plain_keys.proofs.laws.distinct_types_want_little.Goals as goal

pub returns : goal.returns
returns c = once_drawn
