use Rattle.std.proofs.Common.{refl}
use Rattle.policy_rules.specs.Names.{is_policy_name}
use Rattle.reply_tests.proofs.replies.policies.Goals as goal

pub new-policy-requires-clause-named : goal.new-policy-requires-clause-named
unfolding is_policy_name
new-policy-requires-clause-named g c = rw c.in_ok-from_bytes.ensures refl
