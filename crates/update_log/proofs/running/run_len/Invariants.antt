use Rattle.std.proofs.Common.{◌≡◌, ◌+◌, ◌-◌, length}
use Rattle.update_log.specs.Runs.{back, before}
use Rattle.update_log.specs.Scanning.{read_at, run_to}
use Rattle.update_log.proofs.running.run_len.Given as goal

abbrev pub invariant-loop : goal.invariant-loop
invariant-loop l = record {
  so_far : l.len ≡ l.counter + 1;
  rest : length (run_to l.control l.slots l.last) ≡ l.len + length (back l.control.base l.control.size (read_at l.slots)
      (l.control.size - l.counter) (before l.control.base l.control.size (read_at l.slots) l.next));
}
