use Rattle.kdb_plain.proofs.Finds.{found_in}
use Rattle.kdb_plain.specs.States.{policy_named}
use Rattle.policy_rules.specs.Rules.{Rules}
use Rattle.kdb_plain.proofs.lookups.policy_named.Goals as goal

pub returns : goal.returns
unfolding policy_named
returns c =
    found_in (λ (p : Rules). p.name) (λ p. p.now) c.args.name.now c.args.policies.now c.as_slice.result.now
    c.find_row.result c.as_slice.ensures.value c.as_slice.ensures.policies.order c.find_row.ensures.some
    c.find_row.ensures.none
