use Rattle.std.proofs.Common.{◌≡◌, map, take}
use Rattle.policy_rules.specs.Rules.{Rules}
use Rattle.command_plans.proofs.listing.policy_keys.Given as goal

abbrev pub invariant-loop-policy : goal.invariant-loop-policy
invariant-loop-policy l = l.names.items ≡ map (λ (p : Rules). p.name) (take l.policy-index l.policies)
