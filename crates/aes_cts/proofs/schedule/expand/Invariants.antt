use Rattle.std.proofs.Common.{◌≡◌, ◌-◌, ◌*◌, take, length}
use Rattle.aes_cts.specs.Cipher.{expand}
use Rattle.aes_cts.specs.Words.{schedule_bytes}
use Rattle.aes_cts.proofs.schedule.expand.Given as goal

abbrev pub invariant-loop-index : goal.invariant-loop-index
invariant-loop-index g l =
    (length l.keys ≡ g.row.N) × (take l.stride l.keys ≡ take l.stride l.fn.keys)
    × (schedule_bytes (take l.index l.keys)
    ≡ expand (4 * l.stride) (schedule_bytes (take l.stride l.fn.keys)) (4 * (l.index - l.stride)))
