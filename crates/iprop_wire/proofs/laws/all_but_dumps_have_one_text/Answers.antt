use Rattle.iprop_wire.proofs.Written.{one_text}
use Rattle.iprop_wire.proofs.laws.all_but_dumps_have_one_text.Goals as goal

pub returns : goal.returns
returns c = λ text message uncut spells. one_text text message uncut spells
