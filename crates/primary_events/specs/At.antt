-- A primary that is open, and the files of its disk, against what happened to it.
use Rattle.std.specs.Prelude.{◌≡◌, true, false, List, [], ◌∷◌, Option, None, Ok}
use Rattle.iprop_truths.specs.Truths.{Message}
use Rattle.kdb_disk.specs.Files.{Files}
use Rattle.kdb_histories.specs.Asks.{Answer}
use Rattle.kdb_histories.specs.Calls.{Call}
use Rattle.kdb_histories.specs.Sites.{Calls, HappensAt, Site, SiteEvent, Stands, state_of}
use Rattle.kdb_histories.specs.Stages.{Stage}
use Rattle.kdb_places.specs.Places.{Place}
use Rattle.primary_core.specs.Opened.{HasState, Opened, place_of}
use Rattle.store_files.specs.Found.{recovers}
use Rattle.store_files.specs.Recovery.{HasNone}

-- What is kept in memory is the last place of the history, with the state that all of the history comes to.
pub record IsAt (o : Opened) (s : Site) : Type 0 where
  pub at : Stands s
  pub place : at.last.place ≡ place_of o
  pub has : HasState o (state_of s)
  pub up : s.up ≡ true
  -- no fault of the disk has closed it
  pub whole : o.kept.broken ≡ false
  pub dumps : s.dumps ≡ o.dumps
  pub room : s.room ≡ o.room

-- the files stand for no database, or recover to the last place
abbrev pub LastIn : List Stage → Files → Type 0
LastIn [] c = HasNone c
LastIn (t ∷ older) c = recovers c ≡ Ok t.place

abbrev pub StandsFor : Site → Files → Type 0
StandsFor s c = LastIn s.history c

-- This is the last place of the history.
pub record StandsAt (s : Site) (p : Place) : Type 0 where
  pub at : Stands s
  pub is : at.last.place ≡ p

-- The event leads to a site at which this primary is open, and this is sent.
pub record LeadsTo (s : Site) (event : SiteEvent) (said : Option Message) (o : Opened) : Type 0 where
  pub new : Site
  pub happens : HappensAt event s new said
  pub at : IsAt o new

-- The call is an event that leads to this open primary, whatever places it made.
pub record Returns (s : Site) (call : Call) (answer : Answer) (o : Opened) : Type 0 where
  pub made : List Stage
  pub leads : LeadsTo s (Calls call answer made) None o
