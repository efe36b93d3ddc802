use Rattle.iprop_wire.proofs.Beginnings.{taken_begins}
use Rattle.iprop_wire.proofs.laws.bytes_that_are_taken_begin_a_message.Goals as goal

pub returns : goal.returns
returns c = λ text begun held bytes short is. taken_begins text begun held bytes short is
