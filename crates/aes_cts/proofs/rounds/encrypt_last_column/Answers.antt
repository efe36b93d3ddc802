use Rattle.std.proofs.Common.{arith, ap, ◌∙◌}
use Rattle.aes_cts.specs.Field.{sub_byte}
use Rattle.aes_cts.proofs.Words.{last_column_of, byte_read}
use Rattle.aes_cts.proofs.rounds.encrypt_last_column.Goals as goal

pub returns : goal.returns
returns c =
    last_column_of _ c.args.key _ _ _ _ _ _ _ _ (omega arith) (omega arith) (omega arith)
    (omega arith) c.from_be_bytes.ensures
    (c.sub_byte.ensures ∙ ap sub_byte (byte_read _ c.args.a 0 c.to_be_bytes.ensures))
    (c.sub_byte-2.ensures ∙ ap sub_byte (byte_read _ c.args.b 1 c.to_be_bytes-2.ensures))
    (c.sub_byte-3.ensures ∙ ap sub_byte (byte_read _ c.args.c 2 c.to_be_bytes-3.ensures))
    (c.sub_byte-4.ensures ∙ ap sub_byte (byte_read _ c.args.d 3 c.to_be_bytes-4.ensures))
