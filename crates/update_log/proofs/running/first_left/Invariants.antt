use Rattle.std.proofs.Common.{◌≡◌, ◌<◌, ℕ, false}
use Rattle.update_log.specs.Runs.{is_left}
use Rattle.update_log.specs.Scanning.{read_at}
use Rattle.update_log.proofs.running.first_left.Given as goal

abbrev pub invariant-loop-slot : goal.invariant-loop-slot
invariant-loop-slot l = (k : ℕ) → k < l.slot → is_left l.run.last l.run.len (read_at l.slots k) ≡ false
