use Rattle.std.proofs.Common.{◌≡◌, rules}
use Rattle.mkey_admin.proofs.ToldRows.{list_refused, lists}
use Rattle.mkey_admin.specs.Told.{masters_told}
use Rattle.mkey_admin.proofs.listing.list.Goals as goal

pub returns-in-Some : goal.returns-in-Some
returns-in-Some c = list_refused c.args.given.now c.in_ok-why.field-0 c.in_ok-why.ensures c.in-Some.why c.in-Some.is

pub returns-in_ok-rows-in-None : goal.returns-in_ok-rows-in-None
returns-in_ok-rows-in-None c =
    let g = c.args.given.now in
    let part = c.in_ok-part-in-None.part.now in
    let rows_are : c.in_ok-rows-in-None.rows ≡ masters_told g.masters.now part.activations g.moment.secs =
    search rules in
    lists g c.in_ok-why.field-0 c.in_ok-why.ensures c.in_ok-entry-in-None.entry.now part c.in_ok-rows-in-None.rows
    c.in-None.is c.in_ok-entry-in-None.ensures c.in_ok-part-in-None.ensures rows_are
