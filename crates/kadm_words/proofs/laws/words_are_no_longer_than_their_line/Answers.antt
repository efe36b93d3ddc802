use Rattle.kadm_words.proofs.ShortWords.{words_short}
use Rattle.kadm_words.proofs.laws.words_are_no_longer_than_their_line.Goals as goal

pub returns : goal.returns
returns c = λ line words most. words_short most words line
