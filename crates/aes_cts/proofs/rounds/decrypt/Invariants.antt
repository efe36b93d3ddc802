use Rattle.std.proofs.Common.{◌≡◌, ◌-◌}
use Rattle.aes_cts.specs.Inverse.{unrounds}
use Rattle.aes_cts.specs.Words.{block_of, schedule_bytes}
use Rattle.aes_cts.proofs.rounds.decrypt.Given as goal

abbrev pub invariant-loop-index : goal.invariant-loop-index
invariant-loop-index g l = block_of l.state ≡ unrounds (schedule_bytes l.keys) (block_of l.fn.s) (l.index - 1)
