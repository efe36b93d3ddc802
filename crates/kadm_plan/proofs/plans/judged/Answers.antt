use Rattle.std.proofs.Common.{ap, sym, ◌∙◌}
use Rattle.kadm_plan.proofs.plans.judged.Goals as goal
use Rattle.princ_plans.specs.Ready.{ready_keys}

pub plan_change_keys-requires-clause-ready : goal.plan_change_keys-requires-clause-ready
unfolding ready_keys
plan_change_keys-requires-clause-ready c =
    c.as_slice.ensures
    ∙ (c.keys-in-ChangeKeys.ensures.own ∙ ap ready_keys (sym c.command.ensures.value ∙ c.in-ChangeKeys.is))
