use Rattle.std.proofs.Common.{◌≡◌, ◌≤◌, ◌-◌, length}
use Rattle.kdb_disk.specs.Moments.{Keeps}
use Rattle.kdb_disk.specs.Reader.{held_of, left_of, IsOver}
use Rattle.kdb_disk.proofs.reader.FileReader.fill.Given as goal

abbrev pub invariant-loop-self : goal.invariant-loop-self
invariant-loop-self g l = record {
  left : g.D.Disk.tells → left_of l.self (g.D.Disk.view l.disk).seen ≡ left_of l.fn.self (g.D.Disk.view l.fn.disk).seen;
  over : g.D.Disk.tells → IsOver l.self (g.D.Disk.view l.disk).seen;
  keeps : g.D.Disk.tells → Keeps (g.D.Disk.view l.fn.disk) (g.D.Disk.view l.disk);
  same : g.D.Disk.loans l.disk ≡ g.D.Disk.loans l.fn.disk;
  later : g.D.Disk.faults l.fn.disk ≤ g.D.Disk.faults l.disk;
}

abbrev pub decreases-loop-self : goal.decreases-loop-self
decreases-loop-self g l = l.count - length (held_of l.self)
