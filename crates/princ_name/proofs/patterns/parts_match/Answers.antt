-- Part by part.
use Rattle.std.proofs.Common.{arith}
use Rattle.princ_name.proofs.Matching.{at_place, matched_in, matched_out, matched_end, same_number}
use Rattle.princ_name.proofs.patterns.parts_match.Goals as goal

pub returns-then-parts-texts-clause-no : goal.returns-then-parts-texts-clause-no
returns-then-parts-texts-clause-no c = λ _ h. c.if-parts-texts.true (same_number c.args.parts.now c.args.texts.now h)

pub returns-then-not-part_matches-clause-no : goal.returns-then-not-part_matches-clause-no
returns-then-not-part_matches-clause-no c = λ _ h.
    let at = at_place c.args.parts.now c.args.texts.now c.loop-at.at c.index-parts-at.result c.index-texts-at.result
    c.as_slice.result.now (omega arith) (omega arith) c.index-parts-at.is c.index-texts-at.is c.as_slice.ensures in
    c.part_matches.ensures.no c.if-not-part_matches.true
    (matched_in c.args.parts.now c.args.texts.now c.loop-at.at _ _ at (c.loop-at.invariant.rest h)).0

pub loop-at-preserved : goal.loop-at-preserved
loop-at-preserved c =
    let at = at_place c.args.parts.now c.args.texts.now c.loop-at.at c.index-parts-at.result c.index-texts-at.result
    c.as_slice.result.now (omega arith) (omega arith) c.index-parts-at.is c.index-texts-at.is c.as_slice.ensures in
    record {
      whole = λ rest. c.loop-at.invariant.whole (matched_out c.args.parts.now c.args.texts.now c.loop-at.at _ _ at
          (c.part_matches.ensures.yes c.if-not-part_matches.false) rest);
      rest = λ h. (matched_in c.args.parts.now c.args.texts.now c.loop-at.at _ _ at (c.loop-at.invariant.rest h)).1;
    }

pub returns-clause-yes : goal.returns-clause-yes
returns-clause-yes c = λ _.
    c.loop-at.invariant.whole (matched_end c.args.parts.now c.args.texts.now c.loop-at.at (omega arith) (omega arith))
