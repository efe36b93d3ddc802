use Rattle.aes_cts.proofs.Words.{last_round_of_columns}
use Rattle.aes_cts.proofs.rounds.encrypt_last_round.Goals as goal

pub returns : goal.returns
returns c = last_round_of_columns c.args.s c.args.key _ _ _ _ c.encrypt_last_column.ensures
    c.encrypt_last_column-2.ensures c.encrypt_last_column-3.ensures c.encrypt_last_column-4.ensures
