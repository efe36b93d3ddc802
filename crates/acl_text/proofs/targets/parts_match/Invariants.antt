use Rattle.std.proofs.Common.{◌≡◌, drop, map}
use Rattle.acl_text.specs.Patterns.{meant, parts_match}
use Rattle.princ_name.specs.Patterns.{hits_of}
use Rattle.princ_name.specs.Shape.{PatternShape}
use Rattle.acl_text.proofs.targets.parts_match.Given as goal

abbrev pub invariant-loop-at : goal.invariant-loop-at
invariant-loop-at l =
    (pattern : PatternShape) → l.hits.at ≡ hits_of pattern
    → parts_match (map (meant pattern l.client) (drop l.at l.parts)) (drop l.at l.texts)
    ≡ parts_match (map (meant pattern l.client) l.parts) l.texts
