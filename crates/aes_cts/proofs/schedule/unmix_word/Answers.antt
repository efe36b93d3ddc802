use Rattle.std.proofs.Common.{ap, ◌∙◌}
use Rattle.aes_cts.specs.Field.{sub_byte}
use Rattle.aes_cts.specs.Inverse.{unsub_byte}
use Rattle.aes_cts.proofs.Entries.{unsub-sub_byte}
use Rattle.aes_cts.proofs.Words.{unmix_word_of, byte_read, byte_of-lt}
use Rattle.aes_cts.proofs.schedule.unmix_word.Goals as goal

pub returns : goal.returns
returns c =
    unmix_word_of _ _ _ _ _ _ _ _ _ _ _ _
    (ap unsub_byte (c.sub_byte.ensures ∙ ap sub_byte (byte_read _ c.args.word 0 c.to_be_bytes.ensures))
    ∙ unsub-sub_byte _ (byte_of-lt c.args.word 0))
    (ap unsub_byte (c.sub_byte-2.ensures ∙ ap sub_byte (byte_read _ c.args.word 1 c.to_be_bytes.ensures))
    ∙ unsub-sub_byte _ (byte_of-lt c.args.word 1))
    (ap unsub_byte (c.sub_byte-3.ensures ∙ ap sub_byte (byte_read _ c.args.word 2 c.to_be_bytes.ensures))
    ∙ unsub-sub_byte _ (byte_of-lt c.args.word 2))
    (ap unsub_byte (c.sub_byte-4.ensures ∙ ap sub_byte (byte_read _ c.args.word 3 c.to_be_bytes.ensures))
    ∙ unsub-sub_byte _ (byte_of-lt c.args.word 3))
    c.decrypt_part.ensures c.decrypt_part-2.ensures c.decrypt_part-3.ensures c.decrypt_part-4.ensures
