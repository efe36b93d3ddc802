use Rattle.kadm_options.proofs.OptionValueLemmas.{field_found, found_field}
use Rattle.kadm_options.proofs.laws.seconds_are_spelled.Goals as goal

pub returns : goal.returns
returns c = λ option options found. (field_found option options found, found_field option options found)
