use Rattle.std.proofs.Common.{◌≡◌, rules}
use Rattle.kdb_model.specs.Steps.{names_in}
use Rattle.kdb_plain.specs.Lists.{princ_names}
use Rattle.kdb_model.proofs.NameLists.{listed_order}
use Rattle.kdb_model.proofs.reading.princs_listed.Goals as goal

pub from_vec-requires : goal.from_vec-requires
from_vec-requires c =
    let is : c.names_in-found.result.items ≡ names_in c.args.glob.now (princ_names c.as_slice.result.now) =
    search rules in
    listed_order c.args.glob.now c.names_in-found.result.items
    (princ_names c.as_slice.result.now) is c.as_slice.ensures.princs.order
