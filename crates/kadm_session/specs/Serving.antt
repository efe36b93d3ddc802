-- What the calls of a session say, in named groups: what they come to on a course, what is open behind them, what they
-- leave where memory or random bytes are wanted, and the causes of their errors.
use Rattle.std.specs.Prelude.{ℕ, ◌+◌, ◌≡◌, ◌≤◌, ◌<◌, Bool, false, List, Option, None}
use Rattle.std.specs.Prelude.{Result, Ok, Err, IfErr, IfOk, IsTrue, OnErr, OnOk}
use Rattle.kadm_commands.specs.declared.replies.Totals.{Totals}
use Rattle.kadm_lines.specs.Reader.{ReaderState}
use Rattle.kadm_session.specs.Courses.{Course, IsAtRest, IsBetweenLines, Leaves, Stops}
use Rattle.kadm_session.specs.Courses.{course, lines_begun, nothing_begun}
use Rattle.kadm_session.specs.Deciding.{IsHalfway}
use Rattle.kadm_session.specs.Intake.{HasTaken}
use Rattle.kadm_session.specs.RekeyedNames.{sum_of}
use Rattle.kadm_session.specs.declared.intake.Asked.{Asked}
use Rattle.kdb_base.specs.declared.outcomes.Refusal.{Refusal}
use Rattle.kdb_base.specs.declared.versions.Master.{Master}
use Rattle.kdb_disk.specs.Frames.{IsCall}
use Rattle.kdb_disk.specs.Moments.{LeavesOnly}
use Rattle.kdb_disk.specs.View.{View}
use Rattle.kdb_disk.specs.declared.disk.Disk.{Ghosts}
use Rattle.kdb_histories.specs.Seen.{Seen, seen}
use Rattle.kdb_plain.specs.declared.states.State.{State}
use Rattle.primary_core.specs.Opened.{Opened, place_of}
use Rattle.princ_name.specs.Printed.{IsPrinted, is_master}
use Rattle.session_base.specs.Draws.{Draws}
use Rattle.session_base.specs.Halts.{Counts, IsAnswerHalt, IsPerformHalt}
use Rattle.session_base.specs.Stages.{IsStopped}
use Rattle.session_base.specs.declared.halts.SessionHalt.{SessionHalt}
use Rattle.session_base.specs.declared.halts.SessionHalt.TheVariants as session
use Rattle.store_files.specs.Kept.{IsOnDisk}

-- ---- what a course comes to

-- the course of these commands over a database that is open, whose rows show this state
abbrev pub course_over : Option (List ℕ) → Bool → Option (List Asked) → Option Draws → Opened → State → Course
course_over taken refused commands draws o s = course taken refused commands draws (seen (place_of o) s)

-- Over a disk that tells its content: how a call may stop early, and what a crash leaves at any moment of it.
pub record Serves {A : Type 0} (c : Course) (old now : View) (out : Option (List ℕ))
    (result : Result A SessionHalt) : Type 0 where
  -- where it stops early, each command of which a byte was answered is in every image
  pub stopped : OnErr result (IsStopped (Stops c) out now)
  -- Where it stops for want of memory or of random bytes, so many commands were done, and the replies to them are
  -- written in full: no change stands without its reply, but of many that are to be rekeyed those that were before it.
  -- For want of memory, where the next line asks for a dump, a front of the lines of that may be written.
  pub memory : result ≡ Err session.MemoryOut → IsAtRest lines_begun c out now
  pub drawn : result ≡ Err session.DrawFault → IsAtRest nothing_begun c out now
  -- a crash at any moment leaves a place of the course, which the events of its lines reach
  pub moments : LeavesOnly old now (Leaves c)

-- For want of input, and at the limit of the input, it stops between two lines: there the exceptions above are none.
pub record StopsBetween {A : Type 0} (c : Course) (out : Option (List ℕ)) (now : View)
    (result : Result A SessionHalt) : Type 0 where
  pub read : result ≡ Err session.ReadFault → IsBetweenLines c out now
  pub at_limit : result ≡ Err session.InputTooLong → IsBetweenLines c out now

-- ---- what is open

-- Behind Ok the place stands on the disk, no change has failed, and the realm is that of before.
pub record StaysOpen {D A E : Type 0} (g : Ghosts D) (old new : Opened) (now : D) (result : Result A E) : Type 0 where
  pub on : g.tells → OnOk result (IsOnDisk new.kept (g.view now))
  pub whole : OnOk result (new.kept.broken ≡ false)
  pub realm : OnOk result (new.kept.realm ≡ old.kept.realm)

-- where memory is wanted, or no random bytes are given, nothing was done
pub record LeavesUndone {D A : Type 0} (old new : D) (o later : Opened) (result : Result A SessionHalt) : Type 0 where
  pub memory : result ≡ Err session.MemoryOut → (new ≡ old) × (place_of later ≡ place_of o)
  pub drawn : result ≡ Err session.DrawFault → (new ≡ old) × (later ≡ o)

-- the same, but that of many that are rekeyed some may be
pub record RestsHalfway {D A : Type 0} (g : Ghosts D) (new : D) (asked : Asked) (told : Option Draws) (at : Seen)
    (result : Result A SessionHalt) : Type 0 where
  pub memory : result ≡ Err session.MemoryOut → IsHalfway g new asked told at
  pub drawn : result ≡ Err session.DrawFault → IsHalfway g new asked told at

-- ---- one line of an input

-- for want of input, and at the limit of the input, all is as before
pub record LeavesAll {D K A : Type 0} (old new : D) (sink written : K) (o later : Opened)
    (result : Result A SessionHalt) : Type 0 where
  pub read : result ≡ Err session.ReadFault → (written ≡ sink) × (new ≡ old) × (later ≡ o)
  pub at_limit : result ≡ Err session.InputTooLong → (written ≡ sink) × (new ≡ old) × (later ≡ o)

-- where the input has ended, nothing was written, done or drawn
pub record EndsIdle (taken out : Option (List ℕ)) (o later : Opened) (reader : ReaderState) (told left : Option Draws)
    (result : Result (Option Bool) SessionHalt) : Type 0 where
  pub end : result ≡ Ok None → (out ≡ taken) × (later ≡ o) × IsTrue reader.over
  pub end_draws : result ≡ Ok None → left ≡ told

-- what was taken from the source: each byte is counted, and the limit of an input ends it
pub record TakesInput {A : Type 0} (old new : ReaderState) (told left : Option (List ℕ))
    (result : Result A SessionHalt) : Type 0 where
  pub takes : (first : Option (List ℕ)) → HasTaken first old told → HasTaken first new left
  pub too_long : result ≡ Err session.InputTooLong → new.taken ≡ 4294967296

-- ---- one name that is rekeyed

-- a principal whose keys the master keys of this ring open, and totals that have room for one more
pub record MayRekey (word : List ℕ) (masters : List Master) (o : Opened) (totals : Totals) : Type 0 where
  pub printed : IsPrinted word
  pub other : is_master word ≡ false
  pub ring : masters ≡ o.masters
  pub few : sum_of totals < 4294967295

-- at most one more is counted, and the master keys stay
pub record CountsOne (totals : Totals) (old new : Opened)
    (result : Result (Result Totals Refusal) SessionHalt) : Type 0 where
  pub few : IfOk result (λ done. IfOk done (λ more. sum_of more ≤ sum_of totals + 1))
  pub masters : OnOk result (new.masters ≡ old.masters)

-- where memory is wanted, the place of before stands on the disk; where no random bytes are given, this holds
pub record RestsBefore {D A : Type 0} (g : Ghosts D) (old new : Opened) (now : D) (Undrawn : Type 0)
    (result : Result A SessionHalt) : Type 0 where
  pub memory : g.tells → result ≡ Err session.MemoryOut → IsOnDisk new.kept (g.view now)
  pub memory_place : result ≡ Err session.MemoryOut → place_of new ≡ place_of old
  pub drawn : result ≡ Err session.DrawFault → Undrawn

-- ---- causes

-- Of a call over the disk alone: no count of faults falls, and an error comes only where the count of its object rose.
pub record HasDiskCauses {D A : Type 0} (g : Ghosts D) (old new : D) (result : Result A SessionHalt) : Type 0 where
  pub halt : IfErr result IsPerformHalt
  pub call : IsCall g old new (result ≡ Err session.DiskFault)

-- of one that draws too, with the counts of the source of random bytes before and after
pub record HasDrawCauses {D A : Type 0} (g : Ghosts D) (old new : D) (draws_before draws_now : ℕ)
    (result : Result A SessionHalt) : Type 0 where
  pub halt : IfErr result IsPerformHalt
  pub call : IsCall g old new (result ≡ Err session.DiskFault)
  pub draws : Counts draws_before draws_now (result ≡ Err session.DrawFault)

-- of one that writes too, with those of the sink
pub record HasAnswerCauses {D A : Type 0} (g : Ghosts D) (old new : D) (writes_before writes_now : ℕ)
    (draws_before draws_now : ℕ) (result : Result A SessionHalt) : Type 0 where
  pub halt : IfErr result IsAnswerHalt
  pub call : IsCall g old new (result ≡ Err session.DiskFault)
  pub writes : Counts writes_before writes_now (result ≡ Err session.WriteFault)
  pub draws : Counts draws_before draws_now (result ≡ Err session.DrawFault)

-- of one that reads an input too, with those of the source
pub record HasInputCauses {D A : Type 0} (g : Ghosts D) (old new : D) (reads_before reads_now : ℕ)
    (writes_before writes_now : ℕ) (draws_before draws_now : ℕ) (result : Result A SessionHalt) : Type 0 where
  pub call : IsCall g old new (result ≡ Err session.DiskFault)
  pub reads : Counts reads_before reads_now (result ≡ Err session.ReadFault)
  pub writes : Counts writes_before writes_now (result ≡ Err session.WriteFault)
  pub draws : Counts draws_before draws_now (result ≡ Err session.DrawFault)
