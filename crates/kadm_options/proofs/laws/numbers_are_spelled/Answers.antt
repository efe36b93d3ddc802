use Rattle.kadm_options.proofs.OptionValueLemmas.{number_spelled, spelled_number}
use Rattle.kadm_options.proofs.laws.numbers_are_spelled.Goals as goal

pub returns : goal.returns
returns c = λ least most word number. (number_spelled least most word number, spelled_number least most word number)
