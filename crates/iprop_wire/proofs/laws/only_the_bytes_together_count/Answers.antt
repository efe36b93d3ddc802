use Rattle.iprop_wire.proofs.Reading.{fed_parts, taken_parts}
use Rattle.iprop_wire.proofs.laws.only_the_bytes_together_count.Goals as goal

pub returns-clause-leads : goal.returns-clause-leads
returns-clause-leads c = λ s front back. fed_parts s front back

pub returns-clause-counts : goal.returns-clause-counts
returns-clause-counts c = λ s front back. taken_parts s front back
