-- The status of a run, and what it says of the outside.
use Rattle.std.specs.Prelude.{ℕ, ◌≡◌, ◌≢◌, ◌≤◌, ◌⊎◌, Bool, true, false, List, Some, Result, Ok, Err, ⊤}
use Rattle.kadm_session.specs.Courses.{lines_begun, nothing_begun}
use Rattle.kadm_session.specs.declared.intake.Asked.{Asked}
use Rattle.session_base.specs.Halts.{Counts}
use Rattle.session_base.specs.declared.halts.SessionHalt.{SessionHalt}
use Rattle.session_base.specs.declared.halts.SessionHalt.TheVariants as session
use Rattle.kadm_top.specs.Openings.{Opening, ReadsInput}
use Rattle.session_base.specs.Wholes.{IsReadWhole}
use Rattle.kadm_top.specs.Run.{RunEnd, RunEndsAs, RunLeaves, RunRests, RunStops, Told, run_end}
use Rattle.kdb_base.specs.Causes.{Rose}
use Rattle.kdb_base.specs.declared.outcomes.Status.{Status}
use Rattle.kdb_base.specs.declared.outcomes.Status.TheVariants as status
use Rattle.kdb_disk.specs.Moments.{LeavesOnly}
use Rattle.kdb_disk.specs.View.{View}
use Rattle.kdb_places.specs.Places.{Place}

-- the source of random bytes is read too
abbrev pub status_of : SessionHalt → Status
status_of session.MemoryOut = status.MemoryOut
status_of session.ReadFault = status.ReadFault
status_of session.WriteFault = status.WriteFault
status_of session.DiskFault = status.DiskFault
status_of session.DrawFault = status.ReadFault
status_of session.InputTooLong = status.InputTooLong

-- how the writing of a refusal may be stopped
abbrev pub IsSayHalt : SessionHalt → Type 0
IsSayHalt session.MemoryOut = Unit {0}
IsSayHalt session.WriteFault = Unit {0}
IsSayHalt other = ⊥

-- how a database that is made or ended may be stopped
abbrev pub IsMakingHalt : SessionHalt → Type 0
IsMakingHalt session.MemoryOut = Unit {0}
IsMakingHalt session.WriteFault = Unit {0}
IsMakingHalt session.DiskFault = Unit {0}
IsMakingHalt other = ⊥

-- the status of a run that went through, by whether a refusal was written, or was stopped
abbrev pub status_after : Result Bool SessionHalt → Status
status_after (Ok true) = status.Refused
status_after (Ok false) = status.Done
status_after (Err halt) = status_of halt

-- a fact of a run that went through, by whether a refusal was written
abbrev pub OnEnd : Status → (Bool → Type 0) → Type 0
OnEnd status.Done P = P false
OnEnd status.Refused P = P true
OnEnd _ P = ⊤

-- a fact of a run that was stopped
abbrev pub OnStop : Status → Type 0 → Type 0
OnStop status.Done P = ⊤
OnStop status.Refused P = ⊤
OnStop _ P = P

-- a fact of a run that was stopped, though neither the sink nor the disk failed
abbrev pub OnRest : Status → Type 0 → Type 0
OnRest status.MemoryOut P = P
OnRest status.ReadFault P = P
OnRest status.InputTooLong P = P
OnRest _ P = ⊤

-- what may be written of a next line, by the status
abbrev pub begun_by : Status → List Asked → Place → List ℕ
begun_by status.MemoryOut = lines_begun
begun_by other = nothing_begun

-- ---- the causes

-- the counts of the faults of the source, the sink, the disk and the source of random bytes
pub record Faults : Type 0 where
  pub reads : ℕ
  pub writes : ℕ
  pub calls : ℕ
  pub draws : ℕ

abbrev pub faults : ℕ → ℕ → ℕ → ℕ → Faults
faults reads writes calls draws = record { reads = reads; writes = writes; calls = calls; draws = draws }

-- No count falls, and a run is stopped by a fault only where its count rose.
pub record HasCauses (before now : Faults) (result : Result Bool SessionHalt) : Type 0 where
  pub reads : Counts before.reads now.reads (result ≡ Err session.ReadFault)
  pub writes : Counts before.writes now.writes (result ≡ Err session.WriteFault)
  pub calls : Counts before.calls now.calls (result ≡ Err session.DiskFault)
  pub draws : Counts before.draws now.draws (result ≡ Err session.DrawFault)

-- the same of a status
pub record StatusHasCauses (before now : Faults) (result : Status) : Type 0 where
  pub reads : before.reads ≤ now.reads
  pub draws : before.draws ≤ now.draws
  pub read : result ≡ status.ReadFault → Rose before.reads now.reads ⊎ Rose before.draws now.draws
  pub writes : Counts before.writes now.writes (result ≡ status.WriteFault)
  pub calls : Counts before.calls now.calls (result ≡ status.DiskFault)
  pub no_link : result ≢ status.LinkFault

-- ---- all of it, by the status

-- What a run comes to from its opening on, where the disk tells its content.
pub record IsRun (o : Opening) (old now : View) (before after : Told) (result : Status) : Type 0 where
  -- Where nothing fails, as far as it is told: the bytes are the replies, the status says whether a refusal is among
  -- them, and a crash afterwards leaves the last place, or all as it was where the opening was refused.
  pub ended : (end : RunEnd) → run_end o before ≡ Some end
      → OnEnd result (λ refused. RunEndsAs after.taken refused after.draws old now end)
  -- Where it stopped early: the bytes are a front of the replies, and a crash leaves the place after some of the lines,
  -- among them each of which a byte was answered, or one that the next line makes, or no more was done than an opening
  -- does.
  pub stopped : OnStop result (RunStops o old before after.taken now)
  -- Where neither the sink nor the disk failed: the replies to so many lines are written in full, and a crash leaves
  -- the place after them, or of a next line that rekeys many the place behind some of these. Where memory was short, a
  -- front of the dump may be written for which a next line asks.
  pub rests : OnRest result (RunRests (begun_by result) o old before after.taken now)
  -- A crash at any moment of it leaves files like those that one would have left before it, or a place of the run, or
  -- no database while one is made or once its end has begun.
  pub moments : LeavesOnly old now (RunLeaves o old before)
  -- An input that a database was opened for was read to its end.
  pub read : ReadsInput o → OnEnd result (λ _. IsReadWhole before.left after.left)
