use Rattle.std.proofs.Common.{refl}
use Rattle.kdb_plain.proofs.Finds.{found_in}
use Rattle.kdb_plain.specs.States.{policy_named}
use Rattle.policy_rules.specs.Rules.{Rules}
use Rattle.row_keys.proofs.lookups.policy_row.Goals as goal

pub returns : goal.returns
unfolding policy_named
returns c =
    found_in (λ (p : Rules). p.name) (λ p. p.now) c.args.name.now c.args.rows.now.policies c.args.rows.now.policies
    c.policy.result refl c.policies.ensures.rows.policy_order c.policy.ensures.some c.policy.ensures.none
