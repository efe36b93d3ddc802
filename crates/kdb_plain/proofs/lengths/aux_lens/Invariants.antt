use Rattle.std.proofs.Common.{◌≡◌, take}
use Rattle.std.specs.List.{sum_by}
use Rattle.kdb_plain.specs.Lengths.{aux_len, in_64_bits}
use Rattle.kdb_plain.proofs.lengths.aux_lens.Given as goal

abbrev pub invariant-loop-master : goal.invariant-loop-master
invariant-loop-master l = l.total ≡ in_64_bits (sum_by (aux_len l.fn.newest) (take l.master-index l.older))
