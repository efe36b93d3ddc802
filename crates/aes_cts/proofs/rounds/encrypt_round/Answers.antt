use Rattle.aes_cts.proofs.Words.{round_of_columns}
use Rattle.aes_cts.proofs.rounds.encrypt_round.Goals as goal

pub returns : goal.returns
returns c = round_of_columns c.args.s c.args.key _ _ _ _ c.encrypt_column.ensures c.encrypt_column-2.ensures
    c.encrypt_column-3.ensures c.encrypt_column-4.ensures
