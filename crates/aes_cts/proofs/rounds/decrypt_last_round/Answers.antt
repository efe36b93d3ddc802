use Rattle.aes_cts.proofs.Words.{last_unround_of_columns}
use Rattle.aes_cts.proofs.rounds.decrypt_last_round.Goals as goal

pub returns : goal.returns
returns c = last_unround_of_columns c.args.s c.args.key _ _ _ _ c.decrypt_last_column.ensures
    c.decrypt_last_column-2.ensures c.decrypt_last_column-3.ensures c.decrypt_last_column-4.ensures
