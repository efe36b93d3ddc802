use Rattle.std.proofs.Common.{◌≡◌, rules}
use Rattle.std.specs.Prelude.{is_none, option_map}
use Rattle.kadm_commands.specs.declared.commands.Command.TheVariants as command
use Rattle.kdb_base.specs.declared.outcomes.Refusal.TheVariants.{PolicyInUse, UnknownPolicy}
use Rattle.kdb_model.specs.Refusals.{when}
use Rattle.kdb_plain.specs.States.{policy_named}
use Rattle.std.specs.Prelude.{nat_lt}
use Rattle.row_keys.specs.Lookups.{records_with_policy}
use Rattle.command_plans.proofs.PolicyPlans.{drop_comes, drops}
use Rattle.command_plans.proofs.Seen.{refused}
use Rattle.command_plans.proofs.policies.plan_drop_policy.Goals as goal

pub returns-in-Some : goal.returns-in-Some
returns-in-Some c =
    let found : option_map (λ p. p.now) c.policy_row.result
    ≡ policy_named c.args.name.now c.args.given.now.rows.now.policies = search rules in
    let missing : c.when.result ≡ when (is_none (option_map (λ p. p.now) c.policy_row.result)) UnknownPolicy =
    search rules in
    let used : c.use_of.result ≡ when (nat_lt 0 (records_with_policy c.args.name.now c.args.given.now.rows.now.princs))
    (PolicyInUse (records_with_policy c.args.name.now c.args.given.now.rows.now.princs)) = search rules in
    refused c.args.given.now (command.DelPolicy c.args.name.now) _
    (drop_comes c.args.given.now c.args.name.now (option_map (λ p. p.now) c.policy_row.result) c.denial.result
    c.when.result c.use_of.result found c.denial.ensures missing used)
    c.first.result c.first.ensures c.in-Some.why c.in-Some.is

pub returns-in_ok-name-in-None : goal.returns-in_ok-name-in-None
returns-in_ok-name-in-None c =
    let found : option_map (λ p. p.now) c.policy_row.result
    ≡ policy_named c.args.name.now c.args.given.now.rows.now.policies = search rules in
    let missing : c.when.result ≡ when (is_none (option_map (λ p. p.now) c.policy_row.result)) UnknownPolicy =
    search rules in
    let used : c.use_of.result ≡ when (nat_lt 0 (records_with_policy c.args.name.now c.args.given.now.rows.now.princs))
    (PolicyInUse (records_with_policy c.args.name.now c.args.given.now.rows.now.princs)) = search rules in
    let same : c.in_ok-name-in-None.name ≡ c.args.name.now = search rules in
    drops c.args.given.now c.args.name.now (option_map (λ p. p.now) c.policy_row.result) c.denial.result c.when.result
    c.use_of.result found c.denial.ensures missing used
    c.in_ok-name-in-None.name c.first.result c.first.ensures c.in-None.is c.requires same c.policies.ensures.rows
