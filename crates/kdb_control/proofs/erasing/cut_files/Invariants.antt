use Rattle.std.proofs.Common.{◌≡◌, ◌≤◌, ◌<◌, ℕ, []}
use Rattle.kdb_disk.specs.Moments.{LeavesOnly}
use Rattle.kdb_control.specs.Moments.{HasNothing}
use Rattle.kdb_control.proofs.erasing.cut_files.Given as goal

abbrev pub invariant-loop-file : goal.invariant-loop-file
invariant-loop-file g l = record {
  one : 1 ≤ l.file;
  run : g.D.Disk.tells → LeavesOnly (g.D.Disk.view l.fn.disk) (g.D.Disk.view l.disk) HasNothing;
  empty : g.D.Disk.tells → (f : ℕ) → 1 ≤ f → f < l.file → (g.D.Disk.view l.disk).seen f ≡ [];
  same : g.D.Disk.loans l.disk ≡ g.D.Disk.loans l.fn.disk;
  faults : g.D.Disk.faults l.fn.disk ≤ g.D.Disk.faults l.disk;
}
