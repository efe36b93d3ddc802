-- The lines of a session as a run of events of the primary's history.
use Rattle.std.specs.Prelude.{◌≡◌, true, false, List}
use Rattle.iprop_truths.specs.Truths.{Message}
use Rattle.kdb_histories.specs.Seen.{Seen}
use Rattle.kdb_histories.specs.Sites.{Site, SiteEvent, SiteRun, Stands, state_of}
use Rattle.kdb_places.specs.Places.{Place}

-- An open primary stands at this place, and its history comes to the state.
pub record IsOpenAt (s : Site) (at : Seen) : Type 0 where
  pub stands : Stands s
  pub place : stands.last.place ≡ at.place
  pub state : state_of s ≡ at.state
  pub up : s.up ≡ true

-- Events, by which nothing is sent, lead from the one to the other.
pub record RunsOn (s new : Site) : Type 0 where
  pub events : List SiteEvent
  pub run : (sent : List Message) → SiteRun s sent events new sent

-- they lead to an open primary that stands there
pub record RunsTo (s : Site) (at : Seen) : Type 0 where
  pub new : Site
  pub runs : RunsOn s new
  pub stays : IsOpenAt new at

-- they lead to a primary that is not open any more, and to this place
pub record RunsToStop (s : Site) (q : Place) : Type 0 where
  pub new : Site
  pub runs : RunsOn s new
  pub stands : Stands new
  pub is : stands.last.place ≡ q
  pub closed : new.up ≡ false
