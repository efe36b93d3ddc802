use Rattle.std.proofs.Common.{◌≡◌, ◌≤◌}
use Rattle.kdb_disk.specs.Moments.{Keeps, AreSettled}
use Rattle.kdb_disk.proofs.whole.settle_all.Given as goal

abbrev pub invariant-loop-file : goal.invariant-loop-file
invariant-loop-file g l = record {
  keeps : g.D.Disk.tells → Keeps (g.D.Disk.view l.fn.disk) (g.D.Disk.view l.disk);
  settled : g.D.Disk.tells → AreSettled l.file (g.D.Disk.view l.disk);
  same : g.D.Disk.loans l.disk ≡ g.D.Disk.loans l.fn.disk;
  faults : g.D.Disk.faults l.fn.disk ≤ g.D.Disk.faults l.disk;
}
