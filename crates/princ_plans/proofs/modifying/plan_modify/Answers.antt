use Rattle.princ_plans.proofs.ModifyPlans.{modify_early}
use Rattle.princ_plans.proofs.modifying.plan_modify.Goals as goal

pub returns : goal.returns
returns c = modify_early c.args.given.now c.args.c.now c.in-Err.why c.target.ensures.rows
    (c.target.ensures.err c.in-Err.why c.in-Err.is)
