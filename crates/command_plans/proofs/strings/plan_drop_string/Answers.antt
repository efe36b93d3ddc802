use Rattle.command_plans.proofs.StringPlans.{drop_early}
use Rattle.command_plans.proofs.strings.plan_drop_string.Goals as goal

pub returns : goal.returns
returns c = drop_early c.args.given.now c.args.c.now c.in-Err.why c.target.ensures.rows
    (c.target.ensures.err c.in-Err.why c.in-Err.is)
