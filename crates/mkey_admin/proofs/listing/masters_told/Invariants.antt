use Rattle.std.proofs.Common.{◌≡◌, map, take}
use Rattle.mkey_admin.specs.Told.{master_told}
use Rattle.mkey_admin.proofs.listing.masters_told.Given as goal

abbrev pub invariant-loop-master : goal.invariant-loop-master
invariant-loop-master l = l.rows.items ≡ map (master_told l.fn.activations l.fn.secs) (take l.master-index l.masters)
