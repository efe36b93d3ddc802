use Rattle.std.proofs.Common.{arith}
use Rattle.aes_cts.proofs.Entries.{encrypt_part}
use Rattle.aes_cts.proofs.rounds.encrypt_part.Goals as goal

pub returns : goal.returns
returns c = encrypt_part c.args.row c.args.byte (omega arith) (omega arith)
