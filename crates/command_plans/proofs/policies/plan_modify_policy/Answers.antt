use Rattle.std.proofs.Common.{◌≡◌, Some, sym, ap, ◌∙◌, rules}
use Rattle.std.specs.Prelude.{option_map}
use Rattle.kadm_commands.specs.declared.commands.Command.TheVariants as command
use Rattle.kdb_base.specs.declared.outcomes.Refusal.TheVariants.{UnknownPolicy}
use Rattle.kdb_model.specs.Records.{changed_policy}
use Rattle.kdb_plain.specs.States.{policy_named}
use Rattle.command_plans.proofs.Lists.{missing_alike}
use Rattle.command_plans.proofs.PolicyPlans.{modifies, modifies_well, modify_comes}
use Rattle.command_plans.proofs.Seen.{refused}
use Rattle.command_plans.proofs.policies.plan_modify_policy.Goals as goal

pub changed_policy-requires : goal.changed_policy-requires
changed_policy-requires c = modifies_well c.args.given.now.realm.now c.args.c.now c.requires

pub returns-in_ok-policy-in-Ok : goal.returns-in_ok-policy-in-Ok
returns-in_ok-policy-in-Ok c =
    let found : option_map (λ p. p.now) c.policy_row-found.result
    ≡ policy_named c.args.c.now.name c.args.given.now.rows.now.policies = search rules in
    let present = c.present.ensures.ok c.in-Ok.policy c.in-Ok.is in
    let made : c.in_ok-policy-in-Ok.policy ≡ changed_policy c.args.c.now c.in-Ok.policy.now = search rules in
    modifies c.args.given.now c.args.c.now (option_map (λ p. p.now) c.policy_row-found.result) c.denial-denied.result
    found c.denial-denied.ensures
    c.in-Ok.policy.now c.in_ok-policy-in-Ok.policy present.0 (ap (option_map (λ p. p.now)) present.1) made
    (modifies_well c.args.given.now.realm.now c.args.c.now c.requires) c.policies.ensures.rows

pub returns-in-Err : goal.returns-in-Err
returns-in-Err c =
    let found : option_map (λ p. p.now) c.policy_row-found.result
    ≡ policy_named c.args.c.now.name c.args.given.now.rows.now.policies = search rules in
    refused c.args.given.now (command.ModPolicy c.args.c.now) _
    (modify_comes c.args.given.now c.args.c.now (option_map (λ p. p.now) c.policy_row-found.result)
    c.denial-denied.result found c.denial-denied.ensures)
    (Some c.in-Err.why) (sym (c.present.ensures.err c.in-Err.why c.in-Err.is)
    ∙ missing_alike (λ p. p.now) c.denial-denied.result c.policy_row-found.result UnknownPolicy) c.in-Err.why cc
