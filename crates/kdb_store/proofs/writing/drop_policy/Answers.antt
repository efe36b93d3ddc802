use Rattle.policy_rules.specs.Rules.{Rules}
use Rattle.kdb_store.proofs.Given.{named_by_none}
use Rattle.kdb_store.proofs.writing.drop_policy.Goals as goal

pub returns-in-Some-clause-only : goal.returns-in-Some-clause-only
returns-in-Some-clause-only c =
    named_by_none (λ (row : Rules). row.name) c.args.name.now c.args.rows.now.policies c.take_out.result
    c.in-Some.ensures.some.0 c.in-Some.ensures.some.1
