use Rattle.std.proofs.Common.{◌≡◌, rules}
use Rattle.princ_rows.specs.Rows.{policy_keys}
use Rattle.command_plans.proofs.NameLists.{same_order}
use Rattle.command_plans.proofs.listing.list_policies.Goals as goal

pub from_vec-requires : goal.from_vec-requires
from_vec-requires c =
    let is : c.in_ok-names.names.items ≡ policy_keys c.args.given.now.rows.now.policies = search rules in
    same_order c.in_ok-names.names.items (policy_keys c.args.given.now.rows.now.policies) is
    c.policies.ensures.rows.policy_order
