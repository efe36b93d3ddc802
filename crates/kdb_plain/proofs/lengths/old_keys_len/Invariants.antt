use Rattle.std.proofs.Common.{◌≡◌, take}
use Rattle.std.specs.List.{sum_by}
use Rattle.kdb_plain.specs.Lengths.{old_key_len, in_64_bits}
use Rattle.kdb_plain.proofs.lengths.old_keys_len.Given as goal

abbrev pub invariant-loop-key : goal.invariant-loop-key
invariant-loop-key l = l.total ≡ in_64_bits (sum_by (old_key_len l.fn.history) (take l.key-index l.keys))
