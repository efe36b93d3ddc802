use Rattle.std.proofs.Common.{arith}
use Rattle.kadm_values.proofs.GlobLemmas.{no_text, misfit, step_back}
use Rattle.kadm_values.proofs.globs.lies_on.Goals as goal

pub returns-then-at-text-clause-no : goal.returns-then-at-text-clause-no
returns-then-at-text-clause-no c = λ _ m.
    no_text _ _ c.args.count c.loop-at.at c.requires.plain c.requires.within c.loop-at-test.true c.if-at-text.true m

pub returns-then-not-fits-clause-no : goal.returns-then-not-fits-clause-no
returns-then-not-fits-clause-no c = λ _ m.
    misfit _ _ c.args.count c.loop-at.at c.requires.plain c.requires.within c.loop-at-test.true (omega arith)
    (c.fits.ensures.no c.if-not-fits.true) m

pub loop-at-preserved : goal.loop-at-preserved
loop-at-preserved c = (
  λ m. c.loop-at.invariant.0
      (step_back _ _ c.loop-at.at (omega arith) (omega arith) (c.requires.plain c.loop-at.at c.loop-at-test.true)
      (c.fits.ensures.yes c.if-not-fits.false) m),
  omega arith,
)
