use Rattle.kadm_options.proofs.OptionValueLemmas.{one_value}
use Rattle.kadm_options.proofs.laws.word_spells_one_value.Goals as goal

pub returns : goal.returns
returns c = one_value
