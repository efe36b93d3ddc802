use Rattle.kadm_wire.proofs.VerbLemmas.{verb_found}
use Rattle.kadm_wire.proofs.verbs.find_verb.Goals as goal

pub returns-in-Some : goal.returns-in-Some
returns-in-Some c = verb_found _ _ c.args.word.now c.known_words.ensures c.in-Some.ensures

pub returns-in-None : goal.returns-in-None
returns-in-None c = verb_found _ _ c.args.word.now c.known_words.ensures c.in-None.ensures
