use Rattle.std.proofs.Common.{◌≡◌, ◌≤◌, ◌<◌, ◌*◌, ℕ, Some, length, drop}
use Rattle.kdb_disk.specs.Moments.{Keeps}
use Rattle.kdb_disk.specs.Reader.{left_of, IsOver}
use Rattle.update_log.specs.Scanning.{AreRead, read_at, slot_of_file}
use Rattle.update_log.proofs.scanning.read_slots.Given as goal

abbrev pub invariant-loop-slot : goal.invariant-loop-slot
invariant-loop-slot g l = record {
  long : length l.slots.items ≡ l.slot;
  read : AreRead l.control l.slots.items;
  here : g.D.Disk.tells → (k : ℕ) → k < l.slot
      → slot_of_file l.control ((g.D.Disk.view l.fn.disk).seen l.control.log) k ≡ Some (read_at l.slots.items k);
  left : g.D.Disk.tells → left_of l.reader (g.D.Disk.view l.disk).seen
      ≡ drop (l.slot * l.control.block) ((g.D.Disk.view l.fn.disk).seen l.control.log);
  over : g.D.Disk.tells → IsOver l.reader (g.D.Disk.view l.disk).seen;
  keeps : g.D.Disk.tells → Keeps (g.D.Disk.view l.fn.disk) (g.D.Disk.view l.disk);
  same : g.D.Disk.loans l.disk ≡ g.D.Disk.loans l.fn.disk;
  faults : g.D.Disk.faults l.fn.disk ≤ g.D.Disk.faults l.disk;
}
