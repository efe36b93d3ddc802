use Rattle.std.proofs.Common.{sym, ◌∙◌}
use Rattle.princ_plans.proofs.AddPlans.{add_refused}
use Rattle.princ_plans.proofs.adding.plan_add.Goals as goal

pub returns-in-Some : goal.returns-in-Some
returns-in-Some c =
    add_refused c.args.given.now c.args.c.now c.in-Some.why c.requires.command (sym c.cause.ensures ∙ c.in-Some.is)
