use Rattle.iprop_wire.proofs.Written.{message_spelled}
use Rattle.iprop_wire.proofs.laws.what_is_written_spells_the_message.Goals as goal

pub returns : goal.returns
returns c = λ message is. message_spelled message is
