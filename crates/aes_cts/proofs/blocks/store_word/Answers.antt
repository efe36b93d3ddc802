use Rattle.std.proofs.Common.{◌∙◌}
use Rattle.aes_cts.specs.Words.{word_bytes}
use Rattle.aes_cts.proofs.blocks.store_word.Goals as goal

pub returns : goal.returns
unfolding word_bytes
returns c = c.copy_from_slice.ensures.after ∙ c.to_be_bytes.ensures
