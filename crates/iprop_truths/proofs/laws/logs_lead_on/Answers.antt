use Rattle.iprop_truths.proofs.Leading.{holds_marker, holds_change}
use Rattle.iprop_truths.proofs.laws.logs_lead_on.Goals as goal

pub returns-clause-anew : goal.returns-clause-anew
returns-clause-anew c = holds_marker

pub returns-clause-change : goal.returns-clause-change
returns-clause-change c = holds_change
