-- What a contract says of a disk beside what the call is for: its loans, its faults, and what a crash may leave.
use Rattle.std.specs.Prelude.{◌≡◌, ◌≤◌}
use Rattle.kdb_base.specs.Causes.{Rose}
use Rattle.kdb_disk.specs.declared.disk.Disk.{Ghosts}
use Rattle.kdb_disk.specs.Files.{Files}
use Rattle.kdb_disk.specs.Moments.{LeavesOnly}

-- The loans stay, the faults never fall, and the call fails by the disk only where they rose.
pub record IsCall {D : Type 0} (g : Ghosts D) (old new : D) (failed : Type 0) : Type 0 where
  pub same : g.loans new ≡ g.loans old
  pub later : g.faults old ≤ g.faults new
  pub cause : failed → Rose (g.faults old) (g.faults new)

-- Where the disk tells its content, a crash at any moment of the call leaves only files that have P.
pub record IsCrashSafe {D : Type 0} (g : Ghosts D) (old new : D) (P : Files → Type 0) : Type 0 where
  pub told : g.tells → LeavesOnly (g.view old) (g.view new) P
