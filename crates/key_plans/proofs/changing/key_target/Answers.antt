use Rattle.std.proofs.Common.{◌≡◌, [], ◌∷◌, Option, sym, ap, ◌∙◌}
use Rattle.std.specs.Prelude.{is_none, option_map}
use Rattle.command_plans.proofs.Lists.{missing_alike}
use Rattle.command_plans.proofs.TargetFound.{ok_from}
use Rattle.command_plans.specs.Causes.{denial_unless}
use Rattle.kdb_base.specs.declared.outcomes.Refusal.{Refusal}
use Rattle.kdb_base.specs.declared.outcomes.Refusal.TheVariants.{UnknownPrincipal}
use Rattle.kdb_model.specs.Access.{asking, changing}
use Rattle.kdb_model.specs.Refusals.{first, when}
use Rattle.key_plans.proofs.KeyTargets.{key_target_found, key_target_missed}
use Rattle.key_plans.specs.Targets.{IsKeyTarget, change_denial}
use Rattle.key_plans.proofs.changing.key_target.Goals as goal

pub returns-clause-ok : goal.returns-clause-ok
returns-clause-ok c =
    let denied : c.own_denial.result ≡ change_denial c.args.given.now c.args.name.now =
    c.own_denial.ensures ∙ ap (λ b. denial_unless b (option_map (λ acl. acl.now) c.args.given.now.acl)
    c.args.given.now.client.now (asking changing c.args.name.now ∷ [])) c.requires.own in
    ok_from (λ p. IsKeyTarget c.args.given.now c.args.name.now p.now) c.present.result (λ p e.
    let present = c.present.ensures.ok p e in
    key_target_found c.args.given.now c.args.name.now c.args.text.now c.own_denial.result c.protection.result
    (option_map (λ x. x.now) c.found.result)
    c.requires.text denied (c.protection.ensures c.args.name.now c.requires.text) c.found.ensures.found p.now
    c.found.ensures.rows (sym c.first.ensures ∙ present.0) (ap (option_map (λ x. x.now)) present.1))

pub returns-clause-err : goal.returns-clause-err
returns-clause-err c = λ why e.
    let denied : c.own_denial.result ≡ change_denial c.args.given.now c.args.name.now =
    c.own_denial.ensures ∙ ap (λ b. denial_unless b (option_map (λ acl. acl.now) c.args.given.now.acl)
    c.args.given.now.client.now (asking changing c.args.name.now ∷ [])) c.requires.own in
    key_target_missed c.args.given.now c.args.name.now c.args.text.now c.own_denial.result c.protection.result
    (option_map (λ x. x.now) c.found.result)
    c.requires.text denied (c.protection.ensures c.args.name.now c.requires.text) c.found.ensures.found why
    (ap (λ (r : Option Refusal).
    first (r ∷ when (is_none (option_map (λ x. x.now) c.found.result)) UnknownPrincipal ∷ [])) (sym c.first.ensures)
    ∙ sym (missing_alike (λ x. x.now) c.first.result c.found.result UnknownPrincipal) ∙ c.present.ensures.err why e)
