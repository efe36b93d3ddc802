use Rattle.key_plans.proofs.ChangePlans.{change_early}
use Rattle.key_plans.proofs.changing.plan_change_keys.Goals as goal

pub returns : goal.returns
returns c = change_early c.args.given.now c.args.c.now c.in-Err.why (c.key_target.ensures.err c.in-Err.why c.in-Err.is)
