use Rattle.std.proofs.Common.{arith}
use Rattle.aes_cts.proofs.Entries.{decrypt_part}
use Rattle.aes_cts.proofs.rounds.decrypt_part.Goals as goal

pub returns : goal.returns
returns c = decrypt_part c.args.row c.args.byte (omega arith) (omega arith)
