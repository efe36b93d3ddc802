use Rattle.std.proofs.Common.{◌≡◌, Some, take, length}
use Rattle.std.specs.VecDeque.{deque_len}
use Rattle.princ_rows.specs.declared.entries.Logged.{Logged}
use Rattle.update_log.specs.Logs.{newest}
use Rattle.update_log.specs.Scanning.{run_to, last_in}
use Rattle.update_log.proofs.ReadSlots.{AreLeft}
use Rattle.update_log.proofs.running.take_run.Given as goal

abbrev pub invariant-loop-more : goal.invariant-loop-more
invariant-loop-more l = record {
  taken : (last : Logged) → last_in l.control l.fn.slots.items ≡ Some last
      → l.held.items ≡ take l.more (newest l.control.size (run_to l.control l.fn.slots.items last));
  left : AreLeft l.control l.fn.slots.items l.slots.items l.run.last l.count l.more;
  len : deque_len l.held ≡ length l.held.items;
}
