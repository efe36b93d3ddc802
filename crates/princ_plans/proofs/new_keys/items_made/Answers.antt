use Rattle.princ_plans.proofs.NewItems.{random_take}
use Rattle.princ_plans.proofs.new_keys.items_made.Goals as goal

pub random_keys-requires : goal.random_keys-requires
random_keys-requires c =
    random_take c.args.random.now c.args.keys.now c.in-Random.etypes c.as_slice.result.now c.requires.keys
    c.requires.random
    c.in-Random.is c.as_slice.ensures
