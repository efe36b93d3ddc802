use Rattle.std.proofs.Common.{◌≡◌, ◌≤◌, ◌-◌, length, take}
use Rattle.kdb_disk.specs.Moments.{Keeps}
use Rattle.kdb_control.proofs.front.read_front.Given as goal

abbrev pub invariant-loop-count : goal.invariant-loop-count
invariant-loop-count g l = record {
  room : l.count ≤ 128;
  long : length l.front ≡ 128;
  within : g.D.Disk.tells → l.count ≤ length ((g.D.Disk.view l.disk).seen 0);
  bytes : g.D.Disk.tells → take l.count l.front ≡ take l.count ((g.D.Disk.view l.disk).seen 0);
  keeps : g.D.Disk.tells → Keeps (g.D.Disk.view l.fn.disk) (g.D.Disk.view l.disk);
  same : g.D.Disk.loans l.disk ≡ g.D.Disk.loans l.fn.disk;
  faults : g.D.Disk.faults l.fn.disk ≤ g.D.Disk.faults l.disk;
}

abbrev pub decreases-loop-count : goal.decreases-loop-count
decreases-loop-count g l = 128 - l.count
