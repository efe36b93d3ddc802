-- The events that a call of a replica is, by what it says of its place.
use Rattle.std.specs.Prelude.{ℕ, ◌≡◌, ◌⊎◌, Bool, List, [], ◌∷◌, Option, Some, None}
use Rattle.iprop_truths.specs.Truths.{Message}
use Rattle.kdb_places.specs.Places.{Place}
use Rattle.replica_steps.specs.Replicas.{Does, DoesPart, HappensTo, Replica, Task}

-- the place before, where there is one, or one of those that are made
abbrev pub MayBePart : Option Place → List Place → Option Place → Type 0
MayBePart before [] after = after ≡ before
MayBePart before (q ∷ others) after = (after ≡ before) ⊎ MayBePart (Some q) others after

-- The task stopped at this place: an event leads there, and to a replica that is open or is not.
pub record IsTaskStopped (sent : List Message) (r : Replica) (task : Task) (up : Bool)
    (after : Option Place) : Type 0 where
  pub part : ℕ
  pub new : Replica
  pub happens : HappensTo sent (DoesPart task part up) r new None
  pub is : new.place ≡ after
  pub up_is : new.up ≡ up

-- The task was done: its event leads to this place.
pub record IsTaskDone (sent : List Message) (r : Replica) (task : Task) (after : Option Place) : Type 0 where
  pub new : Replica
  pub happens : HappensTo sent (Does task) r new None
  pub is : new.place ≡ after
