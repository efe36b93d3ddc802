use Rattle.master_keys.specs.Lengths.{length-wrapped}
use Rattle.master_keys.proofs.laws.wrapped_keys_have_their_lengths.Goals as goal

pub returns : goal.returns
returns c master etype blob key u = length-wrapped u
