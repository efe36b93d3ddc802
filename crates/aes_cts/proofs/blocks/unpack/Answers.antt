use Rattle.aes_cts.specs.Words.{block_of}
use Rattle.aes_cts.proofs.Packed.{words_of_number}
use Rattle.aes_cts.proofs.blocks.unpack.Goals as goal

pub returns : goal.returns
unfolding block_of
returns c = words_of_number c.args.block
