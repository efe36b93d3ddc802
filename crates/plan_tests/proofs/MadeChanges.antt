-- Plans, judged by the change that they make.
use Rattle.std.proofs.Common.{◌≡◌, ℕ, List, Option, Some, None, Result, Ok, Err, refl}
use Rattle.std.specs.Prelude.{IfOk, IfSome}
use Rattle.command_plans.specs.Given.{IsApplied}
use Rattle.command_plans.specs.declared.planned.Planned.{Planned}
use Rattle.command_plans.specs.declared.planned.Planned.TheVariants.{Answer, Change}
use Rattle.kadm_commands.specs.Commands.{IsCommand}
use Rattle.kadm_commands.specs.declared.commands.Command.{Command}
use Rattle.kdb_base.specs.declared.outcomes.Stop.{Stop}
use Rattle.mkey_admin.specs.declared.planned.MasterChange.{MasterChange}
use Rattle.mkey_admin.specs.declared.planned.MasterPlan.{MasterPlan}
use Rattle.mkey_admin.specs.declared.planned.MasterPlan.TheVariants as masters
use Rattle.plan_tests.specs.Steady.{MastersMayBePut, MayBePut}
use Rattle.princ_rows.specs.Rows.{RowLists}
use Rattle.princ_rows.specs.declared.entries.Op.{Op}

pub plan_may_be_put : (rows : RowLists) (plan : Result Planned Stop)
    → ((op : Op) → plan ≡ Ok (Change op) → IsApplied rows op)
    → IfOk plan (MayBePut rows)
plan_may_be_put rows (Ok (Answer reply)) applies = tt
plan_may_be_put rows (Ok (Change op)) applies = applies op refl
plan_may_be_put rows (Err stop) applies = tt

pub masters_may_be_put : (rows : RowLists) (plan : Result MasterPlan Stop)
    → ((c : MasterChange) → plan ≡ Ok (masters.Change c) → IsApplied rows c.op)
    → IfOk plan (MastersMayBePut rows)
masters_may_be_put rows (Ok (masters.Answer reply)) applies = tt
masters_may_be_put rows (Ok (masters.Change c)) applies = applies c refl
masters_may_be_put rows (Err stop) applies = tt

-- a line that says a command says one of the realm
pub read_is : (realm : List ℕ) (said : Option Command) (r : Result (Option Command) Stop) → r ≡ Ok said
    → ((c : Command) → r ≡ Ok (Some c) → IsCommand realm c)
    → IfSome said (IsCommand realm)
read_is realm None r is valid = tt
read_is realm (Some c) r is valid = valid c is
