-- Plans whose change may be made of rows, and settled work whose record may be stored.
use Rattle.command_plans.specs.Given.{IsApplied}
use Rattle.mkey_admin.specs.declared.planned.MasterPlan.{MasterPlan}
use Rattle.mkey_admin.specs.declared.planned.MasterPlan.TheVariants.{Answer, Change}
use Rattle.princ_record.specs.Princs.{IsPrinc}
use Rattle.princ_rows.specs.Rows.{RowLists}
use Rattle.rekey_work.specs.declared.works.Settled.{Settled}
use Rattle.rekey_work.specs.declared.works.Settled.TheVariants as settled

-- its change has a spelling and may be made
abbrev pub MayBePut : RowLists → MasterPlan → Type 0
MayBePut rows (Answer reply) = Unit {0}
MayBePut rows (Change c) = IsApplied rows c.op

-- the record has a spelling, where one is to be stored
abbrev pub MayBeStored : Settled → Type 0
MayBeStored (settled.Updated made) = IsPrinc made
MayBeStored settled.Already = Unit {0}
MayBeStored settled.Gone = Unit {0}
MayBeStored (settled.Changed found active) = Unit {0}
