use Rattle.std.proofs.Common.{◌≡◌, take}
use Rattle.plan_tests.proofs.opening.copied.Given as goal

abbrev pub invariant-loop-policy : goal.invariant-loop-policy
invariant-loop-policy l = l.out.items ≡ take l.policy-index l.policies
