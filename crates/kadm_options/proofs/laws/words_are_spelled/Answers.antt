use Rattle.kadm_options.proofs.OptionValueLemmas.{word_found, found_word}
use Rattle.kadm_options.proofs.laws.words_are_spelled.Goals as goal

pub returns : goal.returns
returns c = λ option options found. (word_found option options found, found_word option options found)
