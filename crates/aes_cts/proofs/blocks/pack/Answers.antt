use Rattle.std.proofs.Common.{arith}
use Rattle.aes_cts.proofs.Packed.{bytes_of_number}
use Rattle.aes_cts.proofs.blocks.pack.Goals as goal

pub returns : goal.returns
returns c =
    bytes_of_number c.args.s _ _ _ _ _ _ (omega arith) (omega arith) (omega arith) (omega arith)
    c.from.ensures c.from-2.ensures c.from-3.ensures c.from-4.ensures
    c.from-5.ensures c.from-6.ensures
