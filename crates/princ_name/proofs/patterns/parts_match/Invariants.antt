-- The texts before this place are matched.
use Rattle.std.proofs.Common.{drop}
use Rattle.princ_name.specs.Patterns.{MatchesParts}
use Rattle.princ_name.proofs.patterns.parts_match.Given as goal

abbrev pub invariant-loop-at : goal.invariant-loop-at
invariant-loop-at l = record {
  whole : MatchesParts (drop l.at l.parts) (drop l.at l.texts) → MatchesParts l.parts l.texts;
  rest : MatchesParts l.parts l.texts → MatchesParts (drop l.at l.parts) (drop l.at l.texts);
}
