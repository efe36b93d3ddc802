-- Plans, judged by the change that they make.
use Rattle.std.proofs.Common.{◌≡◌, Result, Ok, Err, refl}
use Rattle.std.specs.Prelude.{IfOk}
use Rattle.command_plans.specs.Given.{IsApplied}
use Rattle.kdb_base.specs.declared.outcomes.Stop.{Stop}
use Rattle.mkey_admin.specs.declared.planned.MasterChange.{MasterChange}
use Rattle.mkey_admin.specs.declared.planned.MasterPlan.{MasterPlan}
use Rattle.mkey_admin.specs.declared.planned.MasterPlan.TheVariants.{Answer, Change}
use Rattle.mkey_tests.specs.Made.{MayBePut}
use Rattle.princ_rows.specs.Rows.{RowLists}

pub plan_may_be_put : (rows : RowLists) (plan : Result MasterPlan Stop)
    → ((c : MasterChange) → plan ≡ Ok (Change c) → IsApplied rows c.op)
    → IfOk plan (MayBePut rows)
plan_may_be_put rows (Ok (Answer reply)) applies = tt
plan_may_be_put rows (Ok (Change c)) applies = applies c refl
plan_may_be_put rows (Err stop) applies = tt
