-- How a story goes on, and why a log is begun anew.
use Rattle.std.specs.Prelude.{ℕ, ◌≡◌, ◌<◌, List, [], ◌∷◌, take}
use Rattle.std.specs.List.{All}
use Rattle.kdb_base.specs.Moment.{Moment}
use Rattle.kdb_base.specs.Moments.{micros}
use Rattle.kdb_histories.specs.Asks.{Ask}
use Rattle.kdb_histories.specs.Calls.{ResetCause}
use Rattle.kdb_histories.specs.Seen.{Put, plan_at, seen}
use Rattle.kdb_histories.specs.Sites.{Site, SiteEvent, Creates, Calls, Stops, Crashes, Ends}
use Rattle.kdb_histories.specs.Sites.{Looks, Polls, Dumps, EndsDump, Stands, story_of}
use Rattle.kdb_histories.specs.Stages.{Anew, Filled, Stage, onto, stage}
use Rattle.kdb_places.specs.Places.{Place, log_anew, point_of, replaced}
use Rattle.kdb_plain.specs.declared.states.State.{State}
use Rattle.princ_rows.specs.declared.entries.Op.{Op}
use Rattle.princ_rows.specs.Rows.{RowLists}

-- the stages that an event adds, in their order
abbrev pub stages_of : SiteEvent → List Stage
stages_of (Creates t up) = t ∷ []
stages_of (Calls call answer made) = made
stages_of (Stops call answer made part) = take part made
stages_of Crashes = []
stages_of Ends = []
stages_of Looks = []
stages_of (Polls client access asked) = []
stages_of (Dumps client access) = []
stages_of EndsDump = []

-- a call has its causes at the place that stands, and nothing else has any
abbrev pub CauseOf : SiteEvent → Place → Type 0
CauseOf (Creates t up) p = ⊥
CauseOf (Calls call answer made) p = ResetCause p call made
CauseOf (Stops call answer made part) p = ResetCause p call made
CauseOf Crashes p = ⊥
CauseOf Ends p = ⊥
CauseOf Looks p = ⊥
CauseOf (Polls client access asked) p = ⊥
CauseOf (Dumps client access) p = ⊥
CauseOf EndsDump p = ⊥

pub record HasCause (s : Site) (event : SiteEvent) : Type 0 where
  pub at : Stands s
  pub why : CauseOf event at.last.place

-- The story goes on by these stages, and whichever of them begins the log anew has its cause.
pub record AddsStages (event : SiteEvent) (old new : Site) : Type 0 where
  pub story : story_of new ≡ onto (stages_of event) (story_of old)
  pub causes : All (λ (t : Stage). t.deed ≡ Anew → HasCause old event) (stages_of event)

-- ---- what begins the log anew

-- What is asked changes this place and state by the operation.
abbrev pub ChangesBy : Ask → Op → Place → State → Type 0
ChangesBy ask op p s = plan_at ask (seen p s) ≡ Put op

-- The first of what is made is the log begun anew: the same rows, serial 1, a later time, this log size and this
-- block.
pub record BeginsLog (p : Place) (size block : ℕ) (made : List Stage) : Type 0 where
  pub time : Moment
  pub later : micros (point_of p).time < micros time
  pub others : List Stage
  pub is : made ≡ stage (log_anew (record { sno = 1; time = time }) size block p) Anew ∷ others

-- All that is made is the log begun anew with these rows, at serial 1 and a later time.
pub record BeginsLoaded (p : Place) (rows : RowLists) (made : List Stage) : Type 0 where
  pub time : Moment
  pub later : micros (point_of p).time < micros time
  pub state : State
  pub is : made ≡ stage (replaced p.realm rows (record { sno = 1; time = time }) p) (Filled state) ∷ []
