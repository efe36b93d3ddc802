use Rattle.kadm_commands.specs.declared.commands.Command.TheVariants as command
use Rattle.command_plans.proofs.ReadPlans.{list_comes, list_refused, lists}
use Rattle.command_plans.proofs.listing.plan_list.Goals as goal

pub returns-in-Some : goal.returns-in-Some
returns-in-Some c =
    list_refused c.args.given.now (command.ListPrincs c.args.glob.now) c.denial.result c.in-Some.why
    (list_comes c.args.given.now c.args.glob.now c.denial.result c.denial.ensures) c.in-Some.is

pub returns-in_ok-names-in-None : goal.returns-in_ok-names-in-None
returns-in_ok-names-in-None c =
    lists c.args.given.now c.args.glob.now c.denial.result c.in_ok-names-in-None.names c.denial.ensures c.in-None.is
    c.in_ok-names-in-None.ensures
