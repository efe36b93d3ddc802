use Rattle.aes_cts.proofs.Words.{encrypt_column_of}
use Rattle.aes_cts.proofs.rounds.encrypt_column.Goals as goal

pub returns : goal.returns
returns c =
    encrypt_column_of _ _ _ _ c.args.key c.args.a c.args.b c.args.c c.args.d _ _ _ _
    c.to_be_bytes.ensures c.to_be_bytes-2.ensures c.to_be_bytes-3.ensures c.to_be_bytes-4.ensures
    c.encrypt_part-4.ensures c.encrypt_part-3.ensures c.encrypt_part-2.ensures c.encrypt_part.ensures
