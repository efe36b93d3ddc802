use Rattle.aes_cts.proofs.Words.{unround_of_columns}
use Rattle.aes_cts.proofs.rounds.decrypt_round.Goals as goal

pub returns : goal.returns
returns c = unround_of_columns c.args.s c.args.key _ _ _ _ c.decrypt_column.ensures c.decrypt_column-2.ensures
    c.decrypt_column-3.ensures c.decrypt_column-4.ensures
