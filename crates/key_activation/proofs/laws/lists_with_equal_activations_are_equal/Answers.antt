use Rattle.key_activation.proofs.Single.{told_by_versions}
use Rattle.key_activation.proofs.laws.lists_with_equal_activations_are_equal.Goals as goal

pub returns : goal.returns
returns c = λ a b f g agree. told_by_versions a b f g agree
