-- Why a session ended early, and its causes.
use Rattle.std.specs.Prelude.{ℕ, ◌≤◌}
use Rattle.kdb_base.specs.Causes.{Rose}
use Rattle.kdb_base.specs.declared.outcomes.Halt.{Halt}
use Rattle.kdb_base.specs.declared.outcomes.Halt.TheVariants as disk
use Rattle.session_base.specs.declared.halts.SessionHalt.{SessionHalt}
use Rattle.session_base.specs.declared.halts.SessionHalt.TheVariants as session

abbrev pub disk_as_session : Halt → SessionHalt
disk_as_session disk.MemoryOut = session.MemoryOut
disk_as_session disk.DiskFault = session.DiskFault

-- A count of faults does not fall, and the call fails by what it counts only where it rose.
pub record Counts (before now : ℕ) (failed : Type 0) : Type 0 where
  pub later : before ≤ now
  pub cause : failed → Rose before now

-- ---- which errors a part of a session has

abbrev pub IsReadHalt : SessionHalt → Type 0
IsReadHalt session.MemoryOut = Unit {0}
IsReadHalt session.ReadFault = Unit {0}
IsReadHalt session.InputTooLong = Unit {0}
IsReadHalt other = ⊥

abbrev pub IsPerformHalt : SessionHalt → Type 0
IsPerformHalt session.MemoryOut = Unit {0}
IsPerformHalt session.DiskFault = Unit {0}
IsPerformHalt session.DrawFault = Unit {0}
IsPerformHalt other = ⊥

abbrev pub IsAnswerHalt : SessionHalt → Type 0
IsAnswerHalt session.WriteFault = Unit {0}
IsAnswerHalt other = IsPerformHalt other
