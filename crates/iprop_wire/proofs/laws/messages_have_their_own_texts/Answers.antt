use Rattle.iprop_wire.proofs.Reading.{own_text}
use Rattle.iprop_wire.proofs.laws.messages_have_their_own_texts.Goals as goal

pub returns : goal.returns
returns c = λ text a b one other. own_text text a b one other
