use Rattle.std.proofs.Common.{arith, ◌∙◌}
use Rattle.aes_cts.proofs.Words.{word_of_bytes}
use Rattle.aes_cts.proofs.Places.{four_reads}
use Rattle.aes_cts.proofs.blocks.load_word.Goals as goal

pub returns : goal.returns
returns c =
    word_of_bytes _ _ _ _ _ (omega (arith, c.type_inv.bytes 0)) (omega (arith, c.type_inv.bytes 1))
    (omega (arith, c.type_inv.bytes 2)) (omega (arith, c.type_inv.bytes 3)) c.from_be_bytes.ensures
    ∙ four_reads c.args.bytes.now c.requires
