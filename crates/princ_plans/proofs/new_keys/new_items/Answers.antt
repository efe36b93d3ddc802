use Rattle.princ_plans.proofs.NewItems.{given_items, ready_made, well_keys}
use Rattle.princ_plans.proofs.new_keys.new_items.Goals as goal

pub items_made-requires-clause-keys : goal.items_made-requires-clause-keys
items_made-requires-clause-keys c =
    well_keys c.args.given.now.realm.now c.args.c.now c.in-Some.keys c.requires.command c.in-Some.is

pub returns-in-Some : goal.returns-in-Some
returns-in-Some c =
    given_items c.items_made.result c.args.given.now c.args.c.now c.in-Some.keys c.in-Some.is
    (c.items_made.ensures c.args.c.now.name
    (ready_made c.args.c.now c.in-Some.keys c.args.ready.now c.in-Some.is c.requires.ready))
