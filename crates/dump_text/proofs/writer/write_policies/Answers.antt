use Rattle.std.proofs.Common.{arith}
use Rattle.dump_text.specs.Dumps.{marked, policy_line}
use Rattle.dump_text.proofs.Parts.{holds_item, said_item}
use Rattle.dump_text.proofs.writer.write_policies.Goals as goal

pub returns-in-Err-clause-err : goal.returns-in-Err-clause-err
returns-in-Err-clause-err g c =
    said_item (λ p. marked c.args.mark.now (policy_line p)) c.args.out.now.items c.args.policies.now
    c.loop-policy.policy-index c.policy-item.result c.get.result.now _ _ _ _ c.get.ensures c.loop-policy-test.true
    c.policy-item.is
    c.loop-policy.invariant.0 c.in-Err.ensures.err

pub loop-policy-preserved : goal.loop-policy-preserved
loop-policy-preserved g c = (
  holds_item (λ p. marked c.args.mark.now (policy_line p)) c.args.out.now.items c.args.policies.now
      c.loop-policy.policy-index c.policy-item.result c.get.result.now _ _ _ _ _ c.get.ensures c.loop-policy-test.true
      c.policy-item.is
      c.loop-policy.invariant.0 c.in-Ok.ensures.ok,
  omega (arith, c.loop-policy.invariant.1, c.in-Ok.ensures.later),
)
