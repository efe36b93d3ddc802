use Rattle.std.proofs.Common.{◌≡◌, List, ℕ, ap, ◌∙◌, rules}
use Rattle.std.specs.Prelude.{option_map}
use Rattle.princ_name.specs.Names.{printed}
use Rattle.kadm_commands.specs.declared.commands.Command.TheVariants as command
use Rattle.command_plans.proofs.DropPlans.{drop_comes, drops}
use Rattle.command_plans.proofs.Seen.{refused}
use Rattle.row_keys.specs.Lookups.{record_named}
use Rattle.command_plans.proofs.dropping.plan_drop.Goals as goal

pub returns-in-Some : goal.returns-in-Some
returns-in-Some c =
    let text_is : c.as_slice.result.now ≡ printed c.args.name.now = search rules in
    refused c.args.given.now (command.DelPrinc c.args.name.now) _
    (drop_comes c.args.given.now c.args.name.now c.as_slice.result.now (option_map (λ p. p.now) c.found-found.result)
    c.denial.result c.protection.result c.absence.result c.lockdown.result
    text_is c.found-found.ensures.found c.denial.ensures (c.protection.ensures c.args.name.now search) c.absence.ensures
    c.lockdown.ensures)
    c.first.result c.first.ensures c.in-Some.why c.in-Some.is

pub returns-in-None : goal.returns-in-None
returns-in-None c =
    let text_is : c.in_ok-text.text ≡ printed c.args.name.now = search rules in
    let same : c.as_slice.result.now ≡ c.in_ok-text.text = search rules in
    drops c.args.given.now c.args.name.now c.in_ok-text.text (option_map (λ p. p.now) c.found-found.result)
    c.denial.result c.protection.result c.absence.result c.lockdown.result
    text_is (c.found-found.ensures.found ∙ ap (λ (n : List ℕ). record_named n c.args.given.now.rows.now.princs) same)
    c.denial.ensures (c.protection.ensures c.args.name.now search) c.absence.ensures c.lockdown.ensures
    c.first.result c.first.ensures c.in-None.is c.requires c.found-found.ensures.rows
