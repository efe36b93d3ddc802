use Rattle.std.proofs.Common.{◌∙◌}
use Rattle.aes_cts.specs.Words.{block_of}
use Rattle.aes_cts.proofs.Words.{four_joined}
use Rattle.aes_cts.proofs.Places.{quarters}
use Rattle.aes_cts.proofs.blocks.load.Goals as goal

pub returns : goal.returns
unfolding block_of
returns c =
    four_joined c.load_word.ensures c.load_word-2.ensures c.load_word-3.ensures c.load_word-4.ensures
    ∙ quarters c.args.block.now c.requires
