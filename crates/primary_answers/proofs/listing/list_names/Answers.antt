use Rattle.std.proofs.Common.{◌≡◌, rules}
use Rattle.primary_answers.specs.Listing.{names_told}
use Rattle.princ_rows.specs.Rows.{princ_keys}
use Rattle.primary_answers.proofs.Listed.{told_order, told_others}
use Rattle.primary_answers.proofs.listing.list_names.Goals as goal

pub from_vec-requires : goal.from_vec-requires
from_vec-requires c =
    let is : c.names_told-found.result.items ≡ names_told c.args.glob.now (princ_keys c.args.princs.now) =
    search rules in
    told_order c.args.glob.now c.names_told-found.result.items (princ_keys c.args.princs.now) is c.requires

pub returns-clause-others : goal.returns-clause-others
returns-clause-others c =
    let is : c.from_vec.result ≡ names_told c.args.glob.now (princ_keys c.args.princs.now) = search rules in
    told_others c.args.glob.now c.from_vec.result (princ_keys c.args.princs.now) is
