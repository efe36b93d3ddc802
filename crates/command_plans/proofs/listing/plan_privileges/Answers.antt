use Rattle.command_plans.proofs.ReadPlans.{tells_privileges}
use Rattle.command_plans.proofs.listing.plan_privileges.Goals as goal

pub returns : goal.returns
returns c = tells_privileges c.args.given.now c.in_ok-letters.letters c.in_ok-letters.ensures
