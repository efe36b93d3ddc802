-- A primary that is made, and one that is opened.
use Rattle.std.specs.Prelude.{ℕ, ◌≡◌, ◌≢◌, ◌⊎◌, [], List, Option, Some, Result, Ok, Err}
use Rattle.cell_files.specs.NewFiles.{file_text}
use Rattle.first_rows.specs.Creation.{first_point, first_rows, first_state}
use Rattle.first_rows.specs.Parts.{SpecParts}
use Rattle.iprop_truths.specs.Parts.{end_of}
use Rattle.kdb_base.specs.Moment.{Moment}
use Rattle.kdb_base.specs.declared.outcomes.Refusal.{Refusal}
use Rattle.kdb_base.specs.declared.outcomes.Refusal.TheVariants.{TimeEnd}
use Rattle.kdb_base.specs.declared.outcomes.Stop.{Stop}
use Rattle.kdb_base.specs.declared.outcomes.Stop.TheVariants as stop
use Rattle.kdb_base.specs.declared.versions.Master.{Master}
use Rattle.kdb_control.specs.Choice.{Choice}
use Rattle.kdb_control.specs.Moments.{HasInForce}
use Rattle.kdb_control.specs.declared.force.Force.TheVariants.{Is}
use Rattle.kdb_disk.specs.Files.{Files}
use Rattle.kdb_disk.specs.View.{View}
use Rattle.kdb_histories.specs.Calls.{HasTimeLeft, resized}
use Rattle.kdb_histories.specs.Stages.{places}
use Rattle.kdb_places.specs.Places.{Place, created, point_of}
use Rattle.primary_core.specs.Opened.{Opened, place_of as place_opened}
use Rattle.row_keys.specs.Sound.{AreSound, judged}
use Rattle.stash_file.specs.Written.{stash_text}
use Rattle.stash_opening.specs.Finding.{IsOpeningCause, StashOpens, own_record}
use Rattle.store_files.specs.Found.{Found, place_of, recovers}
use Rattle.store_files.specs.Recovery.{IsLike, LeavesPart, RecoversTo}
use Rattle.store_files.specs.Switches.{first_choice}
use Rattle.store_opening.specs.Looking.{IsUnopened}
use Rattle.store_opening.specs.Moments.{HasFile}

-- ---- a creation

-- the place of a creation: its rows to the byte, serial 1 at the clock, blocks of 2048 bytes, and a stash with the
-- master key
abbrev pub first_place : SpecParts → Moment → List ℕ → Place
first_place spec now random =
    created spec.realm (first_rows spec now random) (first_point now) spec.size 2048
    (Some (stash_text spec.realm now.secs (first_state spec now random).masters)) 2

-- the choice of its files: the first of each kind, and the first turn
abbrev pub first_control : SpecParts → Moment → Choice
first_control spec now = first_choice 2 5 (first_point now) spec.size 2048

-- the bytes of its file of rows: behind the unit of the realm the rows one behind the other, in their order
abbrev pub first_file : SpecParts → Moment → List ℕ → List ℕ
first_file spec now random = file_text 2 spec.realm (first_point now) (first_rows spec now random)

-- Whatever a crash leaves recovers to the place of the creation. Its files are the first of each kind, at the first
-- turn, and the rows stand one behind the other from unit 1 on, in their order.
pub record IsCreated (spec : SpecParts) (moment : Moment) (random : List ℕ) (now : View) : Type 0 where
  pub place : RecoversTo (first_place spec moment random) now
  pub control : HasInForce (Is (first_control spec moment)) now
  pub written : HasFile 1 (first_file spec moment random) now

-- ---- an opening

-- the place that the files stand for, before the opening
abbrev pub place_found : Found → Place
place_found f = place_of f

-- The stash opens these master keys, and the rows are sound under them at the time of the last change.
pub record OpensAt (p : Place) (masters : List Master) : Type 0 where
  pub opened : StashOpens p.stash (own_record p.realm p.rows) masters
  pub sound : AreSound (judged masters p.realm (point_of p).time.secs) p.rows

abbrev pub OpensWith : Found → List Master → Type 0
OpensWith f masters = OpensAt (place_found f) masters

-- the stash in this file does not open the master keys, or the rows are not sound under them
abbrev pub RefusesAt : Place → ℕ → Refusal → Type 0
RefusesAt p file why = IsOpeningCause p.stash file (own_record p.realm p.rows) p.realm (point_of p).time.secs p.rows why

abbrev pub StashRefuses : Found → Refusal → Type 0
StashRefuses f why = RefusesAt (place_found f) f.control.stash why

-- Why the rows are not opened: what the files stand for is judged first, then the stash and the rows.
abbrev pub RowsRefused : Result Found Refusal → Refusal → Type 0
RowsRefused (Err refusal) why = why ≡ refusal
RowsRefused (Ok f) why = StashRefuses f why

-- a log is to begin anew at this place, with another size or of format 1, and no later time is left for it
pub record EndsTime (size : Option ℕ) (clock : Moment) (p : Place) (why : Refusal) : Type 0 where
  pub anew : resized size clock p ≢ []
  pub ended : HasTimeLeft p → ⊥
  pub why_is : why ≡ TimeEnd

-- the rows are opened, and no later time is left for a log that is to begin anew
pub record HasNoTime (size : Option ℕ) (clock : Moment) (f : Found) (why : Refusal) : Type 0 where
  pub masters : List Master
  pub opens : OpensWith f masters
  pub ends : EndsTime size clock (place_found f) why

-- Why an opening is refused: what the files stand for is judged first, then the stash and the rows, and then whether a
-- time is left.
abbrev pub OpeningRefused : Result Found Refusal → Option ℕ → Moment → Refusal → Type 0
OpeningRefused (Err refusal) size clock why = why ≡ refusal
OpeningRefused (Ok f) size clock why = StashRefuses f why ⊎ HasNoTime size clock f why

-- ---- why an opening stops, whatever a disk tells

-- the stash or the rows of some place are refused
pub record RefusesSomePlace (why : Refusal) : Type 0 where
  pub place : Place
  pub file : ℕ
  pub cause : RefusesAt place file why

-- at some place a log is to begin anew, and no later time is left for it
pub record EndsAtSomePlace (size : Option ℕ) (clock : Moment) (why : Refusal) : Type 0 where
  pub place : Place
  pub ends : EndsTime size clock place why

-- The rows are not opened: no database is there or a file is damaged, or the stash or the rows are refused. Else memory
-- ran out or the disk failed.
abbrev pub StopsRows : Stop → Type 0
StopsRows (stop.Refused why) = IsUnopened why ⊎ RefusesSomePlace why
StopsRows (stop.Halt halt) = Unit {0}

-- The primary is not opened: its rows are not, or no later time is left. Else memory ran out or the disk failed.
abbrev pub StopsPrimary : Option ℕ → Moment → Stop → Type 0
StopsPrimary size clock (stop.Refused why) = IsUnopened why ⊎ (RefusesSomePlace why ⊎ EndsAtSomePlace size clock why)
StopsPrimary size clock (stop.Halt halt) = Unit {0}

-- ---- what is opened

-- It is opened with these master keys: the place is this one, or that of the log begun anew.
pub record OpensFrom (p : Place) (masters : List Master) (size : Option ℕ) (clock : Moment) (o : Opened) : Type 0 where
  pub masters_are : o.masters ≡ masters
  pub left : resized size clock p ≢ [] → HasTimeLeft p
  pub place_is : place_opened o ≡ end_of p (places (resized size clock p))

-- It opens: the place is that of the files, or that of the log begun anew.
pub record OpensTo (found : Result Found Refusal) (size : Option ℕ) (clock : Moment) (o : Opened) : Type 0 where
  pub found_is : Found
  pub is : found ≡ Ok found_is
  pub opens : OpensWith found_is o.masters
  pub left : resized size clock (place_found found_is) ≢ [] → HasTimeLeft (place_found found_is)
  pub place_is : place_opened o ≡ end_of (place_found found_is) (places (resized size clock (place_found found_is)))

-- a place of the opening; where that is to begin the log anew, a later time is left for it
pub record LeavesOpening (p : Place) (size : Option ℕ) (clock : Moment) (c : Files) : Type 0 where
  pub left : resized size clock p ≢ [] → HasTimeLeft p
  pub part : LeavesPart p (places (resized size clock p)) c

-- the files stand for what an image of before stood for, or for a place of the opening
abbrev pub MayOpen : View → Result Found Refusal → Option ℕ → Moment → Files → Type 0
MayOpen old (Err refusal) size clock c = IsLike old c
MayOpen old (Ok f) size clock c = IsLike old c ⊎ LeavesOpening (place_found f) size clock c

-- whatever a crash leaves recovers to what these files recover to
abbrev pub RecoversAs : Files → View → Type 0
RecoversAs files now = (c : Files) → now.images c → recovers c ≡ recovers files

-- ---- answers, unless memory runs out or the disk fails

-- it is refused for this
abbrev pub IsRefusedAs : {A : Type 0} → Result A Stop → Refusal → Type 0
IsRefusedAs (Ok a) why = ⊥
IsRefusedAs (Err (stop.Refused other)) why = other ≡ why
IsRefusedAs (Err (stop.Halt halt)) why = Unit {0}

-- memory runs out or the disk fails
abbrev pub IsHalt : Stop → Type 0
IsHalt (stop.Refused why) = ⊥
IsHalt (stop.Halt halt) = Unit {0}

-- it opens with these master keys
abbrev pub OpensHaving : Result Opened Stop → List Master → Type 0
OpensHaving (Ok o) masters = o.masters ≡ masters
OpensHaving (Err (stop.Refused why)) masters = ⊥
OpensHaving (Err (stop.Halt halt)) masters = Unit {0}
