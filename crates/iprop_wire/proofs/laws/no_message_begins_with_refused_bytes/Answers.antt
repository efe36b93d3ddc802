use Rattle.iprop_wire.proofs.Reading.{not_broken}
use Rattle.iprop_wire.proofs.laws.no_message_begins_with_refused_bytes.Goals as goal

pub returns : goal.returns
returns c = λ text rest message broken spells. not_broken text rest message broken spells
