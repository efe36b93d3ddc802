use Rattle.std.proofs.Common.{◌≡◌, Some, sym, ap, ◌∙◌, rules}
use Rattle.std.specs.Prelude.{option_map}
use Rattle.kadm_commands.specs.declared.commands.Command.TheVariants as command
use Rattle.kdb_base.specs.declared.outcomes.Refusal.TheVariants.{UnknownPolicy}
use Rattle.kdb_plain.specs.States.{policy_named}
use Rattle.command_plans.proofs.Lists.{missing_alike}
use Rattle.command_plans.proofs.PolicyPlans.{show_comes, shows_policy}
use Rattle.command_plans.proofs.Seen.{refused}
use Rattle.command_plans.proofs.policies.plan_show_policy.Goals as goal

pub returns-in_ok-policy-in-Ok : goal.returns-in_ok-policy-in-Ok
returns-in_ok-policy-in-Ok c =
    let found : option_map (λ p. p.now) c.policy_row-found.result
    ≡ policy_named c.args.name.now c.args.given.now.rows.now.policies = search rules in
    let present = c.present.ensures.ok c.in-Ok.policy c.in-Ok.is in
    let made : c.in_ok-policy-in-Ok.policy ≡ c.in-Ok.policy.now = search rules in
    shows_policy c.args.given.now c.args.name.now (option_map (λ p. p.now) c.policy_row-found.result)
    c.denial-denied.result found c.denial-denied.ensures
    c.in-Ok.policy.now c.in_ok-policy-in-Ok.policy present.0 (ap (option_map (λ p. p.now)) present.1) made

pub returns-in-Err : goal.returns-in-Err
returns-in-Err c =
    let found : option_map (λ p. p.now) c.policy_row-found.result
    ≡ policy_named c.args.name.now c.args.given.now.rows.now.policies = search rules in
    refused c.args.given.now (command.GetPolicy c.args.name.now) _
    (show_comes c.args.given.now c.args.name.now (option_map (λ p. p.now) c.policy_row-found.result)
    c.denial-denied.result found c.denial-denied.ensures)
    (Some c.in-Err.why) (sym (c.present.ensures.err c.in-Err.why c.in-Err.is)
    ∙ missing_alike (λ p. p.now) c.denial-denied.result c.policy_row-found.result UnknownPolicy) c.in-Err.why cc
