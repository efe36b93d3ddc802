use Rattle.std.proofs.Common.{◌≡◌, rules}
use Rattle.kdb_model.specs.Steps.{names_in}
use Rattle.princ_rows.specs.Rows.{princ_keys}
use Rattle.command_plans.proofs.NameLists.{listed_order}
use Rattle.command_plans.proofs.listing.list_princs.Goals as goal

pub from_vec-requires : goal.from_vec-requires
from_vec-requires c =
    let is : c.names_in-found.result.items ≡ names_in c.args.glob.now (princ_keys c.args.given.now.rows.now.princs) =
    search rules in
    listed_order c.args.glob.now c.names_in-found.result.items
    (princ_keys c.args.given.now.rows.now.princs) is c.princs.ensures.rows.princ_order
