use Rattle.std.proofs.Common.{◌≡◌, ◌-◌}
use Rattle.std.specs.Int.{w128, to_be_bytes}
use Rattle.aes_cts.specs.Cipher.{rounds}
use Rattle.aes_cts.specs.Words.{block_of, schedule_bytes}
use Rattle.aes_cts.proofs.rounds.encrypt_packed.Given as goal

abbrev pub invariant-loop-r : goal.invariant-loop-r
invariant-loop-r g l = block_of l.state ≡ rounds (schedule_bytes l.keys) (to_be_bytes w128 l.fn.block) (l.r - 1)
