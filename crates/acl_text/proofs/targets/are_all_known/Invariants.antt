use Rattle.std.proofs.Common.{◌≡◌, drop}
use Rattle.std.specs.List.{list_all}
use Rattle.acl_text.specs.Patterns.{is_known, wildcard_of}
use Rattle.princ_name.specs.Patterns.{hits_of}
use Rattle.princ_name.specs.Shape.{PatternShape}
use Rattle.acl_text.proofs.targets.are_all_known.Given as goal

abbrev pub invariant-loop-part : goal.invariant-loop-part
invariant-loop-part l =
    (client : PatternShape) → l.hits.at ≡ hits_of client
    → list_all (λ part. is_known client (wildcard_of part)) (drop l.part-index l.parts)
    ≡ list_all (λ part. is_known client (wildcard_of part)) l.parts
