use Rattle.std.proofs.Common.{arith, ap, ◌∙◌}
use Rattle.aes_cts.specs.Field.{sub_byte}
use Rattle.aes_cts.specs.Cipher.{sub_bytes, rot_word}
use Rattle.aes_cts.specs.Words.{word_bytes, byte_of}
use Rattle.aes_cts.proofs.Words.{word_of_known, byte_read}
use Rattle.aes_cts.proofs.schedule.sub_word.Goals as goal

pub returns : goal.returns
unfolding sub_bytes rot_word word_bytes byte_of
returns c =
    word_of_known _ _ _ _ _ _ _ _ _ (omega arith) (omega arith) (omega arith) (omega arith) c.from_be_bytes.ensures
    (c.sub_byte.ensures ∙ ap sub_byte (byte_read _ c.args.word 0 c.to_be_bytes.ensures))
    (c.sub_byte-2.ensures ∙ ap sub_byte (byte_read _ c.args.word 1 c.to_be_bytes.ensures))
    (c.sub_byte-3.ensures ∙ ap sub_byte (byte_read _ c.args.word 2 c.to_be_bytes.ensures))
    (c.sub_byte-4.ensures ∙ ap sub_byte (byte_read _ c.args.word 3 c.to_be_bytes.ensures))
