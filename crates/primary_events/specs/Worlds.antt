-- A history of a world's primary, as a run of the world.
use Rattle.std.specs.Prelude.{◌≡◌, List}
use Rattle.iprop_truths.specs.Truths.{Message}
use Rattle.kdb_histories.specs.Sites.{Site, SiteEvent}
use Rattle.kdb_worlds.specs.Primaries.{site_events}
use Rattle.kdb_worlds.specs.Worlds.{Event, Run, World}

-- Events lead to a world in which the primary is so, and all this was sent. At the primary these happen, and the
-- replicas are as they were.
pub record ComesIn (w : World) (own : List SiteEvent) (s : Site) (sent : List Message) : Type 0 where
  pub events : List Event
  pub new : World
  pub run : Run w events new
  pub own_are : site_events events ≡ own
  pub is : new.site ≡ s
  pub replicas : new.replicas ≡ w.replicas
  pub sent_are : new.sent ≡ sent
