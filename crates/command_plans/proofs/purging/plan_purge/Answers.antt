use Rattle.command_plans.proofs.PurgePlans.{purge_early}
use Rattle.command_plans.proofs.purging.plan_purge.Goals as goal

pub returns : goal.returns
returns c = purge_early c.args.given.now c.args.c.now c.in-Err.why c.target.ensures.rows
    (c.target.ensures.err c.in-Err.why c.in-Err.is)
