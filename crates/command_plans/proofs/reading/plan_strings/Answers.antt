use Rattle.std.proofs.Common.{◌≡◌, Some, sym, ap, ◌∙◌, rules}
use Rattle.std.specs.Prelude.{option_map}
use Rattle.princ_name.specs.Names.{printed}
use Rattle.kadm_commands.specs.declared.commands.Command.TheVariants as command
use Rattle.kdb_base.specs.declared.outcomes.Refusal.TheVariants.{UnknownPrincipal}
use Rattle.command_plans.proofs.Lists.{missing_alike}
use Rattle.command_plans.proofs.ReadPlans.{shows_strings, strings_comes}
use Rattle.command_plans.proofs.Seen.{refused}
use Rattle.command_plans.proofs.reading.plan_strings.Goals as goal

pub returns-in-Ok : goal.returns-in-Ok
returns-in-Ok c =
    let text_is : c.as_slice.result.now ≡ printed c.args.name.now = search rules in
    let present = c.present.ensures.ok c.in-Ok.princ c.in-Ok.is in
    let made : c.in_ok-strings-in-Ok.strings ≡ c.in-Ok.princ.now.strings = search rules in
    shows_strings c.args.given.now c.args.name.now c.as_slice.result.now (option_map (λ p. p.now) c.found-found.result)
    c.denial-denied.result text_is c.found-found.ensures.found c.denial-denied.ensures
    c.in-Ok.princ.now c.in_ok-strings-in-Ok.strings present.0 (ap (option_map (λ p. p.now)) present.1) made

pub returns : goal.returns
returns c =
    let text_is : c.as_slice.result.now ≡ printed c.args.name.now = search rules in
    refused c.args.given.now (command.GetStrings c.args.name.now) _
    (strings_comes c.args.given.now c.args.name.now c.as_slice.result.now (option_map (λ p. p.now) c.found-found.result)
    c.denial-denied.result text_is c.found-found.ensures.found c.denial-denied.ensures)
    (Some c.in-Err.why) (sym (c.present.ensures.err c.in-Err.why c.in-Err.is)
    ∙ missing_alike (λ p. p.now) c.denial-denied.result c.found-found.result UnknownPrincipal) c.in-Err.why cc
