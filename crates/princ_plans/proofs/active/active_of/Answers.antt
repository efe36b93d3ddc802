use Rattle.princ_plans.proofs.ActiveVersions.{active_known}
use Rattle.princ_plans.proofs.active.active_of.Goals as goal

pub returns-in-Some-clause-known : goal.returns-in-Some-clause-known
returns-in-Some-clause-known c = λ f.
    active_known c.args.entry.now c.in-Some.part c.secs.result c.active_at.result c.in-Some.is f
    c.active_at.ensures.some
