-- A load of a primary: which dump it takes, why it is refused, and what it leaves.
use Rattle.std.specs.Prelude.{◌≡◌, ◌⊎◌, true, false, [], ◌∷◌, List, Result, Ok, Err, if◌then◌else◌}
use Rattle.dump_text.specs.declared.dumps.Dump.{Dump}
use Rattle.kdb_base.specs.Moment.{Moment}
use Rattle.kdb_base.specs.declared.moments.Point.{Point}
use Rattle.kdb_base.specs.declared.outcomes.Refusal.{Refusal}
use Rattle.kdb_base.specs.declared.outcomes.Refusal.TheVariants.{Closed, TimeEnd}
use Rattle.kdb_base.specs.declared.outcomes.Stop.{Stop}
use Rattle.kdb_base.specs.declared.outcomes.Stop.TheVariants as stop
use Rattle.kdb_base.specs.declared.versions.Master.{Master}
use Rattle.kdb_histories.specs.Calls.{HasTimeLeft, Loads}
use Rattle.kdb_histories.specs.Seen.{reset_point}
use Rattle.kdb_histories.specs.Stages.{Filled, stage}
use Rattle.kdb_model.specs.Calls.{is_last}
use Rattle.kdb_places.specs.Places.{Place, point_of, replaced}
use Rattle.kdb_plain.specs.declared.states.State.{State}
use Rattle.primary_core.specs.Opened.{HasState, Opened, place_of}
use Rattle.primary_loading.specs.Judging.{IsDumpCause, IsTaken}
use Rattle.princ_rows.specs.Rows.{RowLists}
use Rattle.row_keys.specs.Sound.{ShowsValid, judged}

-- The time at which the rows are judged: that of the log begun anew, or the last one where no later time is left.
abbrev pub load_time : Moment → Place → Moment
load_time clock p = if is_last (point_of p).time then (point_of p).time else (reset_point clock p).time

-- the primary's stash opens these master keys among the dump's rows, and the dump may be taken with them
abbrev pub Takes : Opened → Moment → Dump → List Master → Type 0
Takes o clock dump masters = IsTaken (place_of o).stash o.kept.realm (load_time clock (place_of o)).secs dump masters

-- the dump is loaded, unless memory runs out or the disk fails
pub record MayLoad (o : Opened) (clock : Moment) (dump : Dump) (masters : List Master) : Type 0 where
  pub whole : o.kept.broken ≡ false
  pub takes : Takes o clock dump masters
  pub left : HasTimeLeft (place_of o)

-- ---- why a load is refused: the first of these

pub record IsClosed (o : Opened) (why : Refusal) : Type 0 where
  pub broken : o.kept.broken ≡ true
  pub why_is : why ≡ Closed

pub record IsDumpRefused (o : Opened) (clock : Moment) (dump : Dump) (why : Refusal) : Type 0 where
  pub whole : o.kept.broken ≡ false
  pub cause : IsDumpCause (place_of o).stash o.kept.control.stash o.kept.realm
      (load_time clock (place_of o)).secs dump why

-- the dump may be taken, and no later time is left
pub record EndsTime (o : Opened) (clock : Moment) (dump : Dump) (why : Refusal) : Type 0 where
  pub whole : o.kept.broken ≡ false
  pub masters : List Master
  pub takes : Takes o clock dump masters
  pub ended : HasTimeLeft (place_of o) → ⊥
  pub why_is : why ≡ TimeEnd

abbrev pub LoadRefused : Opened → Moment → Dump → Refusal → Type 0
LoadRefused o clock dump why = IsClosed o why ⊎ (IsDumpRefused o clock dump why ⊎ EndsTime o clock dump why)

-- ---- what it leaves

-- The rows and the master keys are these, and what the rows show at the base with the master keys is the primary's
-- state. Some state is.
pub record IsFilled (old new : Opened) (rows : RowLists) (masters : List Master) (base : Point) : Type 0 where
  pub place : place_of new ≡ replaced (place_of old).realm rows base (place_of old)
  pub masters_are : new.masters ≡ masters
  pub state : State
  pub is : ShowsValid (judged masters old.kept.realm base.time.secs) rows base state
  pub has : HasState new state

-- A state that the dump's rows show, with the master keys that were found, is the primary's, and the load makes its
-- place.
pub record HasLoaded (old new : Opened) (rows : RowLists) (clock : Moment) : Type 0 where
  pub state : State
  pub has : HasState new state
  pub loads : Loads (place_of old) rows clock (stage (place_of new) (Filled state) ∷ [])

-- ---- answers

-- it is not refused, and these are the master keys where memory does not run out and the disk does not fail
abbrev pub LoadsWith : {A : Type 0} → Result A Stop → List Master → List Master → Type 0
LoadsWith (Ok a) found masters = found ≡ masters
LoadsWith (Err (stop.Refused why)) found masters = ⊥
LoadsWith (Err (stop.Halt halt)) found masters = Unit {0}
