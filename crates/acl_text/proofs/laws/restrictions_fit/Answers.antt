use Rattle.acl_text.proofs.LimitsFit.{limits_fit}
use Rattle.acl_text.proofs.laws.restrictions_fit.Goals as goal

pub returns : goal.returns
returns c = λ words limits is. limits_fit words limits is
