-- The events that a call of the primary is, by what it says of its place.
use Rattle.std.specs.Prelude.{◌≡◌, true, false, List, None}
use Rattle.kdb_histories.specs.Asks.{Answer}
use Rattle.kdb_histories.specs.Calls.{Call}
use Rattle.kdb_histories.specs.Sites.{Site, SiteEvent, Creates, Calls, Stops, Crashes, Ends}
use Rattle.kdb_histories.specs.Sites.{Looks, Polls, Dumps, EndsDump, HappensAt, Stands}
use Rattle.kdb_histories.specs.Stages.{Stage}
use Rattle.kdb_places.specs.Places.{Place}

-- a crash, or a stop inside this call
abbrev pub IsStopOf : Call → SiteEvent → Type 0
IsStopOf call Crashes = Unit {0}
IsStopOf call (Stops own answer made part) = own ≡ call
IsStopOf call (Creates t up) = ⊥
IsStopOf call (Calls own answer made) = ⊥
IsStopOf call Ends = ⊥
IsStopOf call Looks = ⊥
IsStopOf call (Polls client access asked) = ⊥
IsStopOf call (Dumps client access) = ⊥
IsStopOf call EndsDump = ⊥

-- The call stopped at this place: an event leads to a primary that is not open, whose last place it is.
pub record IsStopped (s : Site) (call : Call) (q : Place) : Type 0 where
  pub event : SiteEvent
  pub stops : IsStopOf call event
  pub new : Site
  pub happens : HappensAt event s new None
  pub at : Stands new
  pub is : at.last.place ≡ q
  pub closed : new.up ≡ false

-- The call returned: its event leads to an open primary, whose last place this is.
pub record IsReturned (s : Site) (call : Call) (answer : Answer) (q : Place) : Type 0 where
  pub made : List Stage
  pub new : Site
  pub happens : HappensAt (Calls call answer made) s new None
  pub at : Stands new
  pub is : at.last.place ≡ q
  pub ready : new.up ≡ true
