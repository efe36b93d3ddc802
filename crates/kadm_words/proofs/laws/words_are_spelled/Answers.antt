use Rattle.kadm_words.proofs.WordLemmas.{words_read, words_spelled}
use Rattle.kadm_words.proofs.laws.words_are_spelled.Goals as goal

pub returns : goal.returns
returns c = λ line words. (words_spelled line words, words_read words line)
