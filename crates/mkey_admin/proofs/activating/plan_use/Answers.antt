use Rattle.std.proofs.Common.{sym, ◌∙◌}
use Rattle.mkey_admin.proofs.UsedMasters.{use_refused}
use Rattle.mkey_admin.proofs.activating.plan_use.Goals as goal

pub returns-in-Some : goal.returns-in-Some
returns-in-Some c = use_refused c.args.given.now c.args.c.now c.unlisted.result c.in_ok-denied.denied c.unlisted.ensures
    c.in_ok-denied.ensures c.in-Some.why (sym c.first.ensures ∙ c.in-Some.is)
