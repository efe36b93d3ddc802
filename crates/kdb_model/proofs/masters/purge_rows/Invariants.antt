use Rattle.std.proofs.Common.{◌≡◌, map, take}
use Rattle.kdb_model.specs.Masters.{purge_row}
use Rattle.kdb_model.proofs.masters.purge_rows.Given as goal

abbrev pub invariant-loop-master : goal.invariant-loop-master
invariant-loop-master l = l.rows.items ≡ map (purge_row l.fn.state l.fn.secs) (take l.master-index l.masters)
