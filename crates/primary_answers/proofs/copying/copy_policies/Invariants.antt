use Rattle.std.proofs.Common.{◌≡◌, take}
use Rattle.primary_answers.proofs.copying.copy_policies.Given as goal

abbrev pub invariant-loop-policy : goal.invariant-loop-policy
invariant-loop-policy l = l.out.items ≡ take l.policy-index l.policies
