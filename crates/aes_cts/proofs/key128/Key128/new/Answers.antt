use Rattle.std.proofs.Common.{ap, ◌∙◌}
use Rattle.aes_cts.specs.Words.{word_bytes, block_of, schedule_bytes}
use Rattle.aes_cts.proofs.key128.Key128.new.Goals as goal

pub returns : goal.returns
unfolding word_bytes block_of schedule_bytes
returns c = ap schedule_bytes c.expand.ensures.key ∙ c.load.ensures
