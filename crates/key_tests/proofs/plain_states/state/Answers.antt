use Rattle.std.proofs.Common.{refl}
use Rattle.policy_rules.specs.Names.{is_policy_name}
use Rattle.key_tests.proofs.plain_states.state.Goals as goal

pub policy-requires : goal.policy-requires
unfolding is_policy_name
policy-requires c = refl
