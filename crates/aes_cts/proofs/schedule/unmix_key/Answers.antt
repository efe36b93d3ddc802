use Rattle.aes_cts.proofs.Words.{unmixed_of_columns}
use Rattle.aes_cts.proofs.schedule.unmix_key.Goals as goal

pub returns : goal.returns
returns c = unmixed_of_columns c.args.key _ _ _ _ c.unmix_word.ensures c.unmix_word-2.ensures c.unmix_word-3.ensures
    c.unmix_word-4.ensures
