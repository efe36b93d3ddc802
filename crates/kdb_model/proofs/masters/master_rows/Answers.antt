use Rattle.std.proofs.Common.{arith}
use Rattle.kdb_model.proofs.MasterRowLists.{master_rows_rise}
use Rattle.kdb_model.proofs.masters.master_rows.Goals as goal

pub from_vec-requires : goal.from_vec-requires
from_vec-requires c =
    master_rows_rise c.args.state.now c.args.secs
    c.as_slice-masters.result.now c.loop-master.rows.items c.loop-master.master-index c.loop-master.invariant
    (omega (arith, c.loop-master-test.false)) c.as_slice-masters.ensures.rising
