use Rattle.std.proofs.Common.{◌≡◌, rules}
use Rattle.kadm_commands.specs.declared.commands.Command.TheVariants as command
use Rattle.kdb_base.specs.declared.outcomes.Refusal.TheVariants.{Duplicate}
use Rattle.kdb_model.specs.Refusals.{when}
use Rattle.kdb_plain.specs.States.{has_policy}
use Rattle.command_plans.proofs.PolicyPlans.{add_comes, adds}
use Rattle.command_plans.proofs.Seen.{refused}
use Rattle.command_plans.proofs.policies.plan_add_policy.Goals as goal

pub returns-in-Some : goal.returns-in-Some
returns-in-Some c =
    let twice : c.when.result ≡ when (has_policy c.args.policy.now.name c.args.given.now.rows.now.policies) Duplicate =
    search rules in
    refused c.args.given.now (command.AddPolicy c.args.policy.now) _ (add_comes c.args.given.now c.args.policy.now
    c.denial.result c.when.result c.fullness.result c.denial.ensures twice c.fullness.ensures)
    c.first.result c.first.ensures c.in-Some.why c.in-Some.is

pub returns-in_ok-policy-in-None : goal.returns-in_ok-policy-in-None
returns-in_ok-policy-in-None c =
    let twice : c.when.result ≡ when (has_policy c.args.policy.now.name c.args.given.now.rows.now.policies) Duplicate =
    search rules in
    let same : c.in_ok-policy-in-None.policy ≡ c.args.policy.now = search rules in
    adds c.args.given.now c.args.policy.now c.denial.result c.when.result c.fullness.result c.denial.ensures twice
    c.fullness.ensures
    c.in_ok-policy-in-None.policy c.first.result c.first.ensures c.in-None.is c.requires same
