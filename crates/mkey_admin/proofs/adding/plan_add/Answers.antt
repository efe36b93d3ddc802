use Rattle.std.proofs.Common.{sym, ◌∙◌}
use Rattle.mkey_admin.proofs.AddedMasters.{add_refused}
use Rattle.mkey_admin.proofs.adding.plan_add.Goals as goal

pub returns-in-Some : goal.returns-in-Some
returns-in-Some c = add_refused c.args.given.now c.args.asked c.in_ok-denied.denied c.fullness.result
    c.in_ok-denied.ensures c.fullness.ensures c.in-Some.why (sym c.first.ensures ∙ c.in-Some.is)
