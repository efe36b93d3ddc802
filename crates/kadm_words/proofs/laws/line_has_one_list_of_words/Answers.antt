use Rattle.kadm_words.proofs.WordLemmas.{one_split}
use Rattle.kadm_words.proofs.laws.line_has_one_list_of_words.Goals as goal

pub returns : goal.returns
returns c = one_split
