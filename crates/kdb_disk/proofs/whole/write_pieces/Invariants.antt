use Rattle.std.proofs.Common.{◌≡◌, ◌≤◌, ◌-◌, length, take}
use Rattle.kdb_disk.specs.Files.{written}
use Rattle.kdb_disk.specs.View.{IsAfter}
use Rattle.kdb_disk.specs.Moments.{LeavesOnly, Differs}
use Rattle.kdb_disk.proofs.whole.write_pieces.Given as goal

abbrev pub invariant-loop-at : goal.invariant-loop-at
invariant-loop-at g l = record {
  moments : g.D.Disk.tells → LeavesOnly (g.D.Disk.view l.fn.disk) (g.D.Disk.view l.disk)
      (IsAfter (Differs l.file) (g.D.Disk.view l.fn.disk));
  seen : g.D.Disk.tells
      → (g.D.Disk.view l.disk).seen ≡ written l.file 0 (take l.at l.content) (g.D.Disk.view l.fn.disk).seen;
  within : l.at ≤ length l.content;
  same : g.D.Disk.loans l.disk ≡ g.D.Disk.loans l.fn.disk;
  faults : g.D.Disk.faults l.fn.disk ≤ g.D.Disk.faults l.disk;
}

abbrev pub decreases-loop-at : goal.decreases-loop-at
decreases-loop-at g l = length l.content - l.at
