use Rattle.std.proofs.Common.{sym}
use Rattle.kadm_values.proofs.GlobLemmas.{any_same}
use Rattle.kadm_values.proofs.GlobTests.{answer_is_test}
use Rattle.kadm_values.proofs.globs.glob_matches.Goals as goal

pub returns-in-Whole-clause-test : goal.returns-in-Whole-clause-test
returns-in-Whole-clause-test c = answer_is_test _ _ _ (λ _. c.in-Whole.ensures) (λ is. absurd cc)

pub returns-in-Star-clause-yes : goal.returns-in-Star-clause-yes
returns-in-Star-clause-yes c =
    λ is. c.in-Star.ensures.back (any_same _ _ _ _ c.after.ensures c.behind.ensures (c.end_matches.ensures.yes is))

pub returns-in-Star-clause-no : goal.returns-in-Star-clause-no
returns-in-Star-clause-no c = λ none m.
    c.end_matches.ensures.no none
    (any_same _ _ _ _ (sym c.after.ensures) (sym c.behind.ensures) (c.in-Star.ensures.forth 0 m))

pub returns-in-Star-clause-test : goal.returns-in-Star-clause-test
returns-in-Star-clause-test c = answer_is_test _ _ _ (returns-in-Star-clause-yes c) (returns-in-Star-clause-no c)

pub returns-in-Apart-clause-test : goal.returns-in-Apart-clause-test
returns-in-Apart-clause-test c = answer_is_test _ _ _ (λ is. absurd cc) (λ _. c.in-Apart.ensures)
