use Rattle.kprop_runs.proofs.Spelled.{read, spelled}
use Rattle.kprop_runs.proofs.laws.words_are_spelled.Goals as goal

pub returns : goal.returns
returns c = λ words asked. (spelled words asked, read words asked)
