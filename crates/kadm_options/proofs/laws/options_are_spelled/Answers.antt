use Rattle.kadm_options.proofs.OptionLemmas.{read_is_spelled, spelled_is_read}
use Rattle.kadm_options.proofs.laws.options_are_spelled.Goals as goal

pub returns : goal.returns
returns c = λ named words parts. (read_is_spelled named words parts, spelled_is_read named words parts)
