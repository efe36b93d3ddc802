use Rattle.policy_rules.specs.Equal.{equal_rules}
use Rattle.policy_rules.proofs.laws.equal_policies_are_one.Goals as goal

pub returns : goal.returns
returns c = equal_rules
