use Rattle.aes_cts.proofs.Lengths.{length-cipher_at, length-cts_at}
use Rattle.aes_cts.proofs.lengths_are_kept.Goals as goal

pub returns-clause-block : goal.returns-clause-block
returns-clause-block c = length-cipher_at

pub returns-clause-text : goal.returns-clause-text
returns-clause-text c = length-cts_at
