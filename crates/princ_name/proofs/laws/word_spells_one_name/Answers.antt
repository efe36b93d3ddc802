-- By the reading of the word.
use Rattle.princ_name.proofs.Projections.{one_name}
use Rattle.princ_name.proofs.laws.word_spells_one_name.Goals as goal

pub returns : goal.returns
returns c = one_name
