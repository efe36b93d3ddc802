use Rattle.std.proofs.Common.{◌∙◌, ◌&&◌, Bool, sym, ap, refl, option_map}
use Rattle.acl_text.specs.Decisions.{applies, target_fits}
use Rattle.acl_text.proofs.TargetLemmas.{same_test}
use Rattle.acl_text.proofs.rules.applies.Goals as goal

pub returns-then-not-matches : goal.returns-then-not-matches
unfolding applies
returns-then-not-matches c =
    let line = c.args.line.now in
    let client = c.args.client.now in
    ap (λ (b : Bool). b && target_fits line.target line.client client (option_map (λ t. t.now) c.args.target))
    (sym c.if-not-matches.true
    ∙ same_test c.matches.result _ line.client client refl c.matches.ensures.matches.0 c.matches.ensures.matches.1)

pub returns : goal.returns
unfolding applies
returns c =
    let line = c.args.line.now in
    let client = c.args.client.now in
    c.target_fits.ensures
    ∙ ap (λ (b : Bool). b && target_fits line.target line.client client (option_map (λ t. t.now) c.args.target))
    (sym c.if-not-matches.false
    ∙ same_test c.matches.result _ line.client client refl c.matches.ensures.matches.0 c.matches.ensures.matches.1)
