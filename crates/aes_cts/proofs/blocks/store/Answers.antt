use Rattle.aes_cts.proofs.Places.{four_stored}
use Rattle.aes_cts.proofs.blocks.store.Goals as goal

pub returns : goal.returns
returns c =
    four_stored c.args.block.now _ _ _ _ c.args.s c.requires
    c.store_word.ensures c.store_word-2.ensures c.store_word-3.ensures c.store_word-4.ensures
