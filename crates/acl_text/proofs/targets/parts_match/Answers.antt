use Rattle.std.proofs.Common.{◌∙◌}
use Rattle.acl_text.specs.Patterns.{meant}
use Rattle.acl_text.proofs.TargetLemmas.{match_end, match_not, match_on, other_number}
use Rattle.acl_text.proofs.targets.parts_match.Goals as goal

pub returns-then-parts-texts : goal.returns-then-parts-texts
returns-then-parts-texts c =
    λ pattern is. other_number (meant pattern c.args.client.now) c.args.parts.now c.args.texts.now c.if-parts-texts.true

pub returns-then-not-meant_matches : goal.returns-then-not-meant_matches
returns-then-not-meant_matches c = λ pattern is.
    match_not (meant pattern c.args.client.now) c.args.parts.now c.args.texts.now c.loop-at.at c.index-parts-at.result
    c.index-texts-at.result c.as_slice.result.now
    c.loop-at-test.true c.if-parts-texts.false c.index-parts-at.is c.index-texts-at.is c.as_slice.ensures
    (c.if-not-meant_matches.ensures pattern is)
    ∙ c.loop-at.invariant pattern is

pub loop-at-preserved : goal.loop-at-preserved
loop-at-preserved c = λ pattern is.
    match_on (meant pattern c.args.client.now) c.args.parts.now c.args.texts.now c.loop-at.at c.index-parts-at.result
    c.index-texts-at.result c.as_slice.result.now
    c.loop-at-test.true c.if-parts-texts.false c.index-parts-at.is c.index-texts-at.is c.as_slice.ensures
    (c.if-not-meant_matches.ensures pattern is)
    ∙ c.loop-at.invariant pattern is

pub returns : goal.returns
returns c = λ pattern is.
    match_end (meant pattern c.args.client.now) c.args.parts.now c.args.texts.now c.loop-at.at c.loop-at-test.false
    c.if-parts-texts.false
    ∙ c.loop-at.invariant pattern is
