use Rattle.iprop_truths.proofs.Lengths.{block_takes}
use Rattle.iprop_truths.proofs.laws.blocks_are_long_enough.Goals as goal

pub returns : goal.returns
returns c = block_takes
