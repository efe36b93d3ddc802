-- States in which lines are judged, and plans whose change may be made of rows.
use Rattle.command_plans.specs.Given.{IsApplied}
use Rattle.command_plans.specs.declared.planned.Planned.{Planned}
use Rattle.command_plans.specs.declared.planned.Planned.TheVariants.{Answer, Change}
use Rattle.kdb_model.specs.Laws.{IsPoint}
use Rattle.kdb_plain.specs.States.{IsValidState}
use Rattle.kdb_plain.specs.declared.states.State.{State}
use Rattle.mkey_admin.specs.declared.planned.MasterPlan.{MasterPlan}
use Rattle.mkey_admin.specs.declared.planned.MasterPlan.TheVariants as masters
use Rattle.princ_rows.specs.Rows.{RowLists}

-- the state is valid, and its point is one
pub record IsSteady (s : State) : Type 0 where
  pub valid : IsValidState s
  pub point : IsPoint s.point

-- its change has a spelling and may be made
abbrev pub MayBePut : RowLists → Planned → Type 0
MayBePut rows (Answer reply) = Unit {0}
MayBePut rows (Change op) = IsApplied rows op

-- the same of a plan of master keys
abbrev pub MastersMayBePut : RowLists → MasterPlan → Type 0
MastersMayBePut rows (masters.Answer reply) = Unit {0}
MastersMayBePut rows (masters.Change c) = IsApplied rows c.op
