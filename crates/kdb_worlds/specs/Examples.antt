-- A run that there is.
use Rattle.std.specs.Prelude.{◌≡◌, true, List, [], ◌∷◌, Some, None}
use Rattle.iprop_truths.specs.Truths.{Dumped}
use Rattle.kdb_histories.specs.Sites.{Creates, Dumps}
use Rattle.kdb_histories.specs.Stages.{Stage}
use Rattle.kdb_places.specs.Places.{Place, contents_of}
use Rattle.kdb_worlds.specs.Worlds.{AtPrimary, AtReplica, Event, Run, World, no_world}
use Rattle.princ_name.specs.Names.{NameParts}
use Rattle.replica_steps.specs.Replicas.{Does, Install, Reopen, loaded}

-- a creation, a dump, and a replica that is opened and loads it
abbrev pub first_events : Stage → NameParts → List Event
first_events t client =
    AtPrimary (Creates t true) None
    ∷ AtPrimary (Dumps client None) (Some (Dumped (contents_of t.place)))
    ∷ AtReplica 0 (Does (Reopen 1000)) None
    ∷ AtReplica 0 (Does (Install (contents_of t.place))) None
    ∷ []

-- The events lead to a world whose first replica has this place.
pub record LeadsToCopy (events : List Event) (p : Place) : Type 0 where
  pub world : World
  pub run : Run no_world events world
  pub copy : (world.replicas 0).place ≡ Some (loaded 1000 None (contents_of p))
