use Rattle.kadm_wire.proofs.WordLemmas.{short_words}
use Rattle.kadm_wire.proofs.lines.words_answer.Goals as goal

pub read_words-requires : goal.read_words-requires
read_words-requires c = short_words c.args.words.now cc
