use Rattle.aes_cts.proofs.Words.{block_of_xor}
use Rattle.aes_cts.proofs.rounds.add_key.Goals as goal

pub returns : goal.returns
returns c = block_of_xor c.args.s c.args.key
