use Rattle.princ_plans.proofs.NewItems.{wrapped_take}
use Rattle.princ_plans.proofs.new_keys.wrapped_new.Goals as goal

pub wrapped_items-requires : goal.wrapped_items-requires
wrapped_items-requires c =
    wrapped_take c.args.given.now.realm.now c.args.given.now c.args.c.now c.in-Some.keys c.is_drawn.result
    c.args.items.now
    c.requires.command c.requires.random c.in-Some.is c.is_drawn.ensures c.requires.items
