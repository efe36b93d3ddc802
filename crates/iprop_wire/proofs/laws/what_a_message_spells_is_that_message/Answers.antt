use Rattle.iprop_wire.proofs.Reading.{message_ends}
use Rattle.iprop_wire.proofs.laws.what_a_message_spells_is_that_message.Goals as goal

pub returns-clause-leads : goal.returns-clause-leads
returns-clause-leads c = λ text rest message spells. (message_ends text message spells).leads rest

pub returns-clause-counts : goal.returns-clause-counts
returns-clause-counts c = λ text rest message spells. (message_ends text message spells).counts rest
