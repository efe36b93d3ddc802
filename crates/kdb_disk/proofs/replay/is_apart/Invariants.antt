use Rattle.std.proofs.Common.{◌↔◌, length}
use Rattle.kdb_disk.specs.Memory.{IsApart}
use Rattle.kdb_disk.proofs.replay.is_apart.Given as goal

abbrev pub invariant-loop-rest : goal.invariant-loop-rest
invariant-loop-rest l = IsApart l.fn.place l.fn.ranges ↔ IsApart l.fn.place l.rest

abbrev pub decreases-loop-rest : goal.decreases-loop-rest
decreases-loop-rest l = length l.rest
