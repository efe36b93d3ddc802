-- A replica that fell, as a run of the world that it is in.
use Rattle.std.specs.Prelude.{ℕ, ◌≡◌, ◌≢◌, List}
use Rattle.kdb_worlds.specs.Worlds.{Event, Run, World}
use Rattle.replica_steps.specs.Replicas.{Replica}

-- Events lead to a world in which this replica is so, and all else is as it was.
pub record FallsIn (w : World) (i : ℕ) (r : Replica) : Type 0 where
  pub events : List Event
  pub new : World
  pub run : Run w events new
  pub is : new.replicas i ≡ r
  pub others : (j : ℕ) → j ≢ i → new.replicas j ≡ w.replicas j
  pub site : new.site ≡ w.site
  pub sent : new.sent ≡ w.sent
