use Rattle.mkey_admin.proofs.JudgedMasters.{judged_change, judged_refused, planned_on, refused_on}
use Rattle.mkey_admin.proofs.plans.plan.Goals as goal

pub returns-in-Ok-plan-clause-change : goal.returns-in-Ok-plan-clause-change
returns-in-Ok-plan-clause-change c = λ s call change seen called is.
    judged_change _ _ c.in-Ok.plan (c.in-Ok.ensures c.requires.planned) s call seen called change
    (planned_on c.in-Ok.plan c.in-Ok-plan.planned _ c.in-Ok-plan.is is)

pub returns-in-Err-plan-clause-refused : goal.returns-in-Err-plan-clause-refused
returns-in-Err-plan-clause-refused c = λ s call why seen called is.
    judged_refused _ _ c.in-Ok.plan (c.in-Ok.ensures c.requires.planned) s call seen called why
    (refused_on c.in-Ok.plan c.in-Err-plan.why why c.in-Err-plan.is is)
