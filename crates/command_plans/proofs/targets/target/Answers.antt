use Rattle.std.proofs.Common.{[], ◌∷◌, Option, sym, ap, ◌∙◌}
use Rattle.std.specs.Prelude.{is_none, option_map}
use Rattle.command_plans.specs.Targets.{IsTarget}
use Rattle.command_plans.proofs.TargetFound.{ok_from, target_found, target_missed}
use Rattle.command_plans.proofs.Lists.{missing_alike}
use Rattle.kdb_base.specs.declared.outcomes.Refusal.{Refusal}
use Rattle.kdb_base.specs.declared.outcomes.Refusal.TheVariants.{UnknownPrincipal}
use Rattle.kdb_model.specs.Refusals.{first, when}
use Rattle.command_plans.proofs.targets.target.Goals as goal

pub returns-clause-ok : goal.returns-clause-ok
returns-clause-ok c =
    ok_from (λ p. IsTarget c.args.given.now c.args.letter c.args.name.now p.now) c.present.result (λ p e.
    let present = c.present.ensures.ok p e in
    target_found c.args.given.now c.args.letter c.args.name.now c.args.text.now c.denial.result c.protection.result
    (option_map (λ x. x.now) c.found.result)
    c.requires c.denial.ensures (c.protection.ensures c.args.name.now c.requires) c.found.ensures.found p.now
    c.found.ensures.rows (sym c.first.ensures ∙ present.0) (ap (option_map (λ x. x.now)) present.1))

pub returns-clause-err : goal.returns-clause-err
returns-clause-err c = λ why e.
    target_missed c.args.given.now c.args.letter c.args.name.now c.args.text.now c.denial.result c.protection.result
    (option_map (λ x. x.now) c.found.result)
    c.requires c.denial.ensures (c.protection.ensures c.args.name.now c.requires) c.found.ensures.found why
    (ap (λ (r : Option Refusal).
    first (r ∷ when (is_none (option_map (λ x. x.now) c.found.result)) UnknownPrincipal ∷ [])) (sym c.first.ensures)
    ∙ sym (missing_alike (λ x. x.now) c.first.result c.found.result UnknownPrincipal) ∙ c.present.ensures.err why e)
