use Rattle.std.proofs.Common.{◌≡◌, [], ◌∷◌, Option, sym, ap, ◌∙◌, rules}
use Rattle.std.specs.Prelude.{is_none, option_map}
use Rattle.princ_name.specs.Names.{printed}
use Rattle.kdb_base.specs.declared.outcomes.Refusal.{Refusal}
use Rattle.kdb_base.specs.declared.outcomes.Refusal.TheVariants.{UnknownPrincipal}
use Rattle.kdb_model.specs.Refusals.{first, when}
use Rattle.command_plans.proofs.Lists.{missing_alike}
use Rattle.command_plans.proofs.ReadPlans.{extract_early, extract_locked, extracts_keys}
use Rattle.command_plans.proofs.reading.plan_extract.Goals as goal

pub returns-in-Some : goal.returns-in-Some
returns-in-Some c =
    let text_is : c.as_slice.result.now ≡ printed c.args.name.now = search rules in
    let present = c.present.ensures.ok c.in-Ok.princ c.in-Ok.is in
    extract_locked c.args.given.now c.args.name.now c.as_slice.result.now (option_map (λ p. p.now) c.found-found.result)
    c.denial.result c.protection.result text_is c.found-found.ensures.found
    c.denial.ensures (c.protection.ensures c.args.name.now search) c.in-Ok.princ.now c.in-Some.why
    (sym c.first.ensures ∙ present.0) (ap (option_map (λ p. p.now)) present.1) (sym c.lockdown.ensures ∙ c.in-Some.is)

pub returns-in-Ok : goal.returns-in-Ok
returns-in-Ok c =
    let text_is : c.as_slice.result.now ≡ printed c.args.name.now = search rules in
    let present = c.present.ensures.ok c.in-Ok.princ c.in-Ok.is in
    extracts_keys c.args.given.now c.args.name.now c.as_slice.result.now (option_map (λ p. p.now) c.found-found.result)
    c.denial.result c.protection.result text_is c.found-found.ensures.found
    c.denial.ensures (c.protection.ensures c.args.name.now search) c.in-Ok.princ.now c.in_ok-keys-in-None.keys
    (sym c.first.ensures ∙ present.0) (ap (option_map (λ p. p.now)) present.1) (sym c.lockdown.ensures ∙ c.in-None.is)
    c.in_ok-keys-in-None.ensures

pub returns : goal.returns
returns c =
    let text_is : c.as_slice.result.now ≡ printed c.args.name.now = search rules in
    extract_early c.args.given.now c.args.name.now c.as_slice.result.now (option_map (λ p. p.now) c.found-found.result)
    c.denial.result c.protection.result text_is c.found-found.ensures.found
    c.denial.ensures (c.protection.ensures c.args.name.now search) c.in-Err.why
    (ap (λ (r : Option Refusal). first
    (r ∷ when (is_none (option_map (λ p. p.now) c.found-found.result)) UnknownPrincipal ∷ [])) (sym c.first.ensures)
    ∙ sym (missing_alike (λ p. p.now) c.first.result c.found-found.result UnknownPrincipal)
    ∙ c.present.ensures.err c.in-Err.why c.in-Err.is)
