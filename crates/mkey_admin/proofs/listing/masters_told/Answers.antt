use Rattle.std.proofs.Common.{arith, refl}
use Rattle.kadm_commands.specs.declared.versions.MasterRow.{MasterRow}
use Rattle.mkey_admin.proofs.ToldRows.{rows_rise}
use Rattle.mkey_admin.specs.Told.{master_told}
use Rattle.mkey_admin.proofs.listing.masters_told.Goals as goal

pub from_vec-requires : goal.from_vec-requires
from_vec-requires c =
    rows_rise (master_told c.args.activations.now c.args.secs) (λ (row : MasterRow). row.version) (λ m. refl)
    c.as_slice-masters.result.now c.loop-master.rows.items c.loop-master.master-index c.loop-master.invariant
    (omega (arith, c.loop-master-test.false)) c.as_slice-masters.ensures.rising
