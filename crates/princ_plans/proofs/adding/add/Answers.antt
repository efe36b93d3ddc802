use Rattle.princ_plans.proofs.AddPlans.{add_fits, adds}
use Rattle.princ_plans.proofs.adding.add.Goals as goal

pub put-requires : goal.put-requires
put-requires c = add_fits c.args.given.now c.args.c.now c.in_ok-made.made c.in_ok-made.ensures c.requires.command
    c.requires.causes c.requires.realm

pub returns : goal.returns
returns c =
    adds c.args.given.now c.args.c.now c.in_ok-made.made c.in_ok-made.ensures c.requires.command c.requires.causes
    c.put.result c.requires.realm c.put.ensures
