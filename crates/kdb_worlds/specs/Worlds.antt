-- A world: one primary, numbered replicas, and all messages that were ever sent.
use Rattle.std.specs.Prelude.{ℕ, ◌≡◌, nat_eq, List, [], ◌∷◌, Option, if◌then◌else◌}
use Rattle.iprop_truths.specs.Truths.{Message}
use Rattle.kdb_histories.specs.Sites.{HappensAt, Site, SiteEvent, also, no_site}
use Rattle.replica_steps.specs.Replicas.{HappensTo, Replica, ReplicaEvent, no_replica}

pub record World : Type 0 where
  pub site : Site
  pub replicas : ℕ → Replica
  pub sent : List Message

abbrev pub no_world : World
no_world = record { site = no_site; replicas = λ i. no_replica; sent = [] }

-- What happens at one of them, and what it sends. A message that never comes is an event that is missing; one may come
-- again, and in any order.
pub data Event : Type 0 where
  AtPrimary : (event : SiteEvent) (said : Option Message) → Event
  AtReplica : (which : ℕ) (event : ReplicaEvent) (said : Option Message) → Event

abbrev pub with_replica : ℕ → Replica → (ℕ → Replica) → ℕ → Replica
with_replica i r replicas j = if nat_eq j i then r else replicas j

pub record PrimaryMoves (event : SiteEvent) (said : Option Message) (old new : World) : Type 0 where
  pub site : Site
  pub happens : HappensAt event old.site site said
  pub is : new ≡ record { site = site; replicas = old.replicas; sent = also said old.sent }

pub record ReplicaMoves (which : ℕ) (event : ReplicaEvent) (said : Option Message) (old new : World) : Type 0 where
  pub replica : Replica
  pub happens : HappensTo old.sent event (old.replicas which) replica said
  pub is : new ≡ record {
    site = old.site;
    replicas = with_replica which replica old.replicas;
    sent = also said old.sent;
  }

abbrev pub Happens : Event → World → World → Type 0
Happens (AtPrimary event said) old new = PrimaryMoves event said old new
Happens (AtReplica which event said) old new = ReplicaMoves which event said old new

abbrev pub Run : World → List Event → World → Type 0
Run old [] new = new ≡ old
Run old (event ∷ events) new = (next : World) × Happens event old next × Run next events new
