use Rattle.std.proofs.Common.{◌≡◌, take}
use Rattle.std.specs.List.{sum_by}
use Rattle.kdb_plain.specs.Lengths.{set_len, in_64_bits}
use Rattle.kdb_plain.proofs.lengths.sets_len.Given as goal

abbrev pub invariant-loop-set : goal.invariant-loop-set
invariant-loop-set l = l.total ≡ in_64_bits (sum_by (set_len l.fn.history) (take l.set-index l.sets))
