use Rattle.std.proofs.Common.{arith}
use Rattle.aes_cts.proofs.Entries.{sbox-sub_byte}
use Rattle.aes_cts.proofs.rounds.sub_byte.Goals as goal

pub returns : goal.returns
returns c = sbox-sub_byte c.args.byte (omega arith)
