use Rattle.iprop_truths.proofs.Leading.{holds_more, true_more}
use Rattle.iprop_truths.proofs.laws.truths_stay.Goals as goal

pub returns-clause-message : goal.returns-clause-message
returns-clause-message c = true_more

pub returns-clause-held : goal.returns-clause-held
returns-clause-held c = holds_more
