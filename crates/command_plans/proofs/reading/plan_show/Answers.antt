use Rattle.std.proofs.Common.{◌≡◌, Some, sym, ap, ◌∙◌, rules}
use Rattle.std.specs.Prelude.{option_map}
use Rattle.princ_name.specs.Names.{printed}
use Rattle.kadm_commands.specs.declared.commands.Command.TheVariants as command
use Rattle.kdb_base.specs.declared.outcomes.Refusal.TheVariants.{UnknownPrincipal}
use Rattle.kdb_model.specs.Access.{same_name}
use Rattle.command_plans.specs.ShownRecords.{record_shown}
use Rattle.command_plans.proofs.Lists.{missing_alike}
use Rattle.command_plans.proofs.ReadPlans.{show_comes, shows}
use Rattle.command_plans.proofs.Seen.{refused}
use Rattle.command_plans.proofs.reading.plan_show.Goals as goal

pub returns-in-Ok : goal.returns-in-Ok
returns-in-Ok c =
    let text_is : c.as_slice-3.result.now ≡ printed c.args.name.now = search rules in
    let own : c.eq-own.result ≡ same_name c.args.given.now.client.now c.args.name.now = search rules in
    let present = c.present.ensures.ok c.in-Ok.princ c.in-Ok.is in
    let made : c.in_ok-shown-in-Ok.shown ≡ record_shown c.in-Ok.princ.now = search rules in
    shows c.args.given.now c.args.name.now c.as_slice-3.result.now c.eq-own.result
    (option_map (λ p. p.now) c.found-found.result) c.own_denial-denied.result text_is c.found-found.ensures.found own
    c.own_denial-denied.ensures
    c.in-Ok.princ.now c.in_ok-shown-in-Ok.shown present.0 (ap (option_map (λ p. p.now)) present.1) made

pub returns : goal.returns
returns c =
    let text_is : c.as_slice-3.result.now ≡ printed c.args.name.now = search rules in
    let own : c.eq-own.result ≡ same_name c.args.given.now.client.now c.args.name.now = search rules in
    refused c.args.given.now (command.GetPrinc c.args.name.now) _
    (show_comes c.args.given.now c.args.name.now c.as_slice-3.result.now c.eq-own.result
    (option_map (λ p. p.now) c.found-found.result) c.own_denial-denied.result text_is c.found-found.ensures.found own
    c.own_denial-denied.ensures)
    (Some c.in-Err.why) (sym (c.present.ensures.err c.in-Err.why c.in-Err.is)
    ∙ missing_alike (λ p. p.now) c.own_denial-denied.result c.found-found.result UnknownPrincipal) c.in-Err.why cc
