use Rattle.std.proofs.Common.{◌∙◌, true, false, refl, ap, map, List, ℕ}
use Rattle.acl_text.specs.Patterns.{meant, part_matches, parts_match}
use Rattle.acl_text.proofs.TargetLemmas.{every_target, whole_matches}
use Rattle.acl_text.proofs.targets.target_matches.Goals as goal

pub returns-then-parts_match : goal.returns-then-parts_match
returns-then-parts_match c = λ pattern is.
    let own = c.in-Some-parts.ensures.parts in
    whole_matches pattern c.args.client.now c.args.name.now c.args.target.now c.in-Some-parts.parts.now own.0
    c.in-Some.realm.now true c.part_matches.result
    c.in-Some.ensures own.1
    (c.if-parts_match.ensures pattern is
    ∙ ap (λ (ts : List (List ℕ)). parts_match (map (meant pattern c.args.client.now) c.in-Some-parts.parts.now) ts)
    c.parts-in-Some-parts.ensures.value)
    (c.part_matches.ensures ∙ ap (part_matches c.in-Some.realm.now) c.realm-then-parts_match.ensures.value)

pub returns-else-parts_match : goal.returns-else-parts_match
returns-else-parts_match c = λ pattern is.
    let own = c.in-Some-parts.ensures.parts in
    c.if-parts_match.false
    ∙ whole_matches pattern c.args.client.now c.args.name.now c.args.target.now c.in-Some-parts.parts.now own.0
    c.in-Some.realm.now false (part_matches c.in-Some.realm.now c.args.name.now.realm)
    c.in-Some.ensures own.1
    (c.if-parts_match.ensures pattern is
    ∙ ap (λ (ts : List (List ℕ)). parts_match (map (meant pattern c.args.client.now) c.in-Some-parts.parts.now) ts)
    c.parts-in-Some-parts.ensures.value)
    refl

pub returns-in-None : goal.returns-in-None
returns-in-None c =
    λ pattern is. every_target pattern c.args.client.now c.args.name.now c.args.target.now c.in-None.ensures
