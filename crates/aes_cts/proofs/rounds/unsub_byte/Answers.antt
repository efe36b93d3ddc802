use Rattle.std.proofs.Common.{arith}
use Rattle.aes_cts.proofs.Entries.{sbox-unsub_byte}
use Rattle.aes_cts.proofs.rounds.unsub_byte.Goals as goal

pub returns : goal.returns
returns c = sbox-unsub_byte c.args.byte (omega arith)
