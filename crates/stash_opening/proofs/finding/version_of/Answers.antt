use Rattle.stash_opening.proofs.Listed.{one_listed}
use Rattle.stash_opening.proofs.finding.version_of.Goals as goal

pub returns-in-Some-clause-some : goal.returns-in-Some-clause-some
returns-in-Some-clause-some c found e =
    one_listed c.args.items.now c.args.version c.in-Some.item.now c.in-Some.ensures.some c.in-Some.ensures.version
