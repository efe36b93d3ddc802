use Rattle.kadm_options.proofs.OptionValueLemmas.{found_bad, bad_found, found_readable, readable_found}
use Rattle.kadm_options.proofs.laws.first_bad_value_is_found.Goals as goal

pub returns-clause-bad : goal.returns-clause-bad
returns-clause-bad c = λ options field. (found_bad options field, bad_found options field)

pub returns-clause-readable : goal.returns-clause-readable
returns-clause-readable c = λ options. (found_readable options, readable_found options)
