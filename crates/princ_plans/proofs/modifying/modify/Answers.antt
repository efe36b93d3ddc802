use Rattle.princ_plans.proofs.ModifyPlans.{modifies, modify_fits}
use Rattle.princ_plans.proofs.modifying.modify.Goals as goal

pub put_unless-requires : goal.put_unless-requires
put_unless-requires c =
    modify_fits c.args.given.now c.args.c.now c.args.princ.now c.requires.target c.in_ok-made.made c.in_ok-made.ensures
    c.requires.command

pub returns : goal.returns
returns c =
    modifies c.args.given.now c.args.c.now c.args.princ.now c.requires.target c.in_ok-made.made c.in_ok-made.ensures
    c.put_unless.result
    c.cause-before.result c.cause-before.ensures
    c.put_unless.ensures.refused c.put_unless.ensures.put c.requires.realm c.requires.command
