use Rattle.kadm_values.proofs.GlobLemmas.{star_laid, whole_laid, longer_text}
use Rattle.kadm_values.proofs.globs.lay.Goals as goal

pub returns-then-count-glob : goal.returns-then-count-glob
returns-then-count-glob c =
    star_laid _ _ c.star_in-count.result (c.lies_on.ensures.long c.if-not-lies_on.false) c.if-count-glob.true
    c.star_in-count.ensures.before
    (c.star_in-count.ensures.star c.if-count-glob.true) (c.lies_on.ensures.lies c.if-not-lies_on.false)

pub returns-then-count-text : goal.returns-then-count-text
returns-then-count-text c =
    whole_laid _ _ c.star_in-count.result c.if-count-text.true c.if-count-glob.false
    (c.lies_on.ensures.lies c.if-not-lies_on.false)

pub returns : goal.returns
returns c = λ m.
    longer_text _ _ c.star_in-count.result (c.lies_on.ensures.long c.if-not-lies_on.false) c.if-count-text.false
    c.if-count-glob.false
    c.star_in-count.ensures.within c.star_in-count.ensures.before m
