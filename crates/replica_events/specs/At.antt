-- A replica that is open, and the files of its disk, against what happened to it.
use Rattle.std.specs.Prelude.{◌≡◌, true, false, List, Option, Some, None, Ok}
use Rattle.std.specs.List.{All}
use Rattle.iprop_truths.specs.Truths.{Message}
use Rattle.kdb_disk.specs.Files.{Files}
use Rattle.kdb_places.specs.Places.{Place}
use Rattle.replica_core.specs.Opened.{Opened, place_of}
use Rattle.replica_steps.specs.Replicas.{Does, DoesPart, Falls, HappensTo, NodeDumps, NodeEndsDump}
use Rattle.replica_steps.specs.Replicas.{NodePolls, NodeServes, Replica, ReplicaEvent, ReplicaRun, Task}
use Rattle.store_files.specs.Found.{recovers}
use Rattle.store_files.specs.Recovery.{HasNone}

-- What is kept in memory is the replica's place, and it has the replica's log size.
pub record IsReplicaAt (o : Opened) (r : Replica) : Type 0 where
  pub place : place_of o ≡ r.place
  pub size : o.size ≡ r.size
  pub up : r.up ≡ true

-- the files stand for no database, or recover to the place
abbrev pub PlaceIn : Option Place → Files → Type 0
PlaceIn None c = HasNone c
PlaceIn (Some p) c = recovers c ≡ Ok p

-- The event leads to a replica that is open, and nothing is sent.
pub record LeadsOn (sent : List Message) (r : Replica) (event : ReplicaEvent) (o : Opened) : Type 0 where
  pub new : Replica
  pub happens : HappensTo sent event r new None
  pub at : IsReplicaAt o new

-- a fall, or a stop inside a call that closed it
abbrev pub IsFall : ReplicaEvent → Type 0
IsFall (Does task) = ⊥
IsFall (DoesPart task part up) = up ≡ false
IsFall Falls = Unit {0}
IsFall (NodeServes room) = ⊥
IsFall (NodePolls client access asked) = ⊥
IsFall (NodeDumps client access) = ⊥
IsFall NodeEndsDump = ⊥

-- a fall, or a stop inside this task that closed it
abbrev pub IsFallOf : Task → ReplicaEvent → Type 0
IsFallOf task (Does own) = ⊥
IsFallOf task (DoesPart own part up) = (own ≡ task) × (up ≡ false)
IsFallOf task Falls = Unit {0}
IsFallOf task (NodeServes room) = ⊥
IsFallOf task (NodePolls client access asked) = ⊥
IsFallOf task (NodeDumps client access) = ⊥
IsFallOf task NodeEndsDump = ⊥

-- Events of this kind lead to a replica that is not open, for whose place the files stand.
pub record FallsBy (Kind : ReplicaEvent → Type 0) (sent : List Message) (r : Replica) (c : Files) : Type 0 where
  pub events : List ReplicaEvent
  pub each : All Kind events
  pub new : Replica
  pub run : ReplicaRun sent r events new
  pub stands : PlaceIn new.place c
  pub closed : new.up ≡ false

-- by falls, of whatever tasks
abbrev pub FallsTo : List Message → Replica → Files → Type 0
FallsTo sent r c = FallsBy IsFall sent r c
