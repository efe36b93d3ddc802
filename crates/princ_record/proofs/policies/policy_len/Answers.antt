use Rattle.std.proofs.Common.{ℕ, List, length, ap, arith}
use Rattle.princ_record.specs.PolicyLaws.{length-policy, short_name}
use Rattle.princ_record.proofs.policies.policy_len.Goals as goal

pub returns-clause-value : goal.returns-clause-value
returns-clause-value c =
    omega (arith, length-policy c.args.value.now, ap (λ (xs : List ℕ). length xs) c.name.ensures.value)

pub returns-clause-small : goal.returns-clause-small
returns-clause-small c = omega (arith, short_name c.name.result.now c.name.ensures.named)
