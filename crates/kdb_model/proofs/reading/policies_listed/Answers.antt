use Rattle.std.proofs.Common.{◌≡◌, rules}
use Rattle.princ_rows.specs.Rows.{policy_keys}
use Rattle.kdb_model.proofs.NameLists.{same_order}
use Rattle.kdb_model.proofs.reading.policies_listed.Goals as goal

pub from_vec-requires : goal.from_vec-requires
from_vec-requires c =
    let is : c.in_ok-names.names.items ≡ policy_keys c.as_slice.result.now = search rules in
    same_order c.in_ok-names.names.items (policy_keys c.as_slice.result.now) is c.as_slice.ensures.policies.order
