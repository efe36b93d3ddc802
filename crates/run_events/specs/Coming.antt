-- What comes of a primary's history: files that a crash leaves, and a disk between two runs.
use Rattle.std.specs.Prelude.{◌≡◌, false, List, []}
use Rattle.iprop_truths.specs.Truths.{Message}
use Rattle.kadm_session.specs.Runs.{RunsOn}
use Rattle.kdb_disk.specs.Files.{Files}
use Rattle.kdb_disk.specs.View.{View}
use Rattle.kdb_histories.specs.Sites.{Site, SiteEvent, SiteRun, no_site}
use Rattle.primary_events.specs.At.{StandsFor}

-- All events since there was nothing led here.
pub record HasHistory (s : Site) : Type 0 where
  pub events : List SiteEvent
  pub sent : List Message
  pub run : SiteRun no_site [] events s sent

-- Events, by which nothing is sent, lead to a site at which no primary is open and for which the files stand.
pub record HasCome (s : Site) (c : Files) : Type 0 where
  pub new : Site
  pub runs : RunsOn s new
  pub closed : new.up ≡ false
  pub stands : StandsFor new c

-- A history led here, and whatever a crash leaves of the disk has come of it.
pub record RestsAt (s : Site) (now : View) : Type 0 where
  pub history : HasHistory s
  pub each : (c : Files) → now.images c → HasCome s c

-- Events lead to one site at which no primary is open, and for which the disk stands, whatever a crash leaves of it.
pub record RunsDown (s : Site) (now : View) : Type 0 where
  pub new : Site
  pub runs : RunsOn s new
  pub down : new.up ≡ false
  pub stands : (c : Files) → now.images c → StandsFor new c
  -- a run may begin there
  pub rests : RestsAt new now
