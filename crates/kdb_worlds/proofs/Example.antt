-- A creation, a dump, and a replica that is opened and loads it.
use Rattle.std.proofs.Common.{◌≡◌, true, [], ◌∷◌, refl, arith}
use Rattle.iprop_truths.proofs.Members.{contains_first}
use Rattle.iprop_truths.specs.Truths.{Dumped, Message}
use Rattle.kdb_histories.specs.Histories.{IsCreation}
use Rattle.kdb_histories.specs.Sites.{Site, begun, no_site, with_dumps}
use Rattle.kdb_histories.specs.Stages.{Stage}
use Rattle.kdb_places.specs.Places.{contents_of}
use Rattle.kdb_worlds.specs.Examples.{LeadsToCopy, first_events}
use Rattle.kdb_worlds.specs.Worlds.{World, with_replica}
use Rattle.princ_name.specs.Names.{NameParts}
use Rattle.replica_steps.specs.Replicas.{Install, Reopen, Replica, makes_of, no_replica, replica_after}

pub first_run : (t : Stage) (client : NameParts) → IsCreation [] t → t.place.format ≡ 2
    → LeadsToCopy (first_events t client) t.place
first_run t client creation newer =
    let message : Message = Dumped (contents_of t.place) in
    let made : Site = begun t true no_site in
    let dumping : Site = with_dumps 1 made in
    let opened : Replica = replica_after no_replica (Reopen 1000) [] true in
    let loaded : Replica =
    replica_after opened (Install (contents_of t.place)) (makes_of opened (Install (contents_of t.place))) true in
    let first : World = record { site = made; replicas = λ i. no_replica; sent = [] } in
    let second : World = record { site = dumping; replicas = λ i. no_replica; sent = message ∷ [] } in
    let third : World =
    record { site = dumping; replicas = with_replica 0 opened (λ i. no_replica); sent = message ∷ [] } in
    let last : World =
    record { site = dumping; replicas = with_replica 0 loaded third.replicas; sent = message ∷ [] } in
    record {
      world = last;
      run = (
        first,
        record {
          site = made;
          happens = record { none = refl; creation = creation; newer = λ up. newer; is = refl; silent = refl };
          is = refl;
        },
        (
          second,
          record {
            site = dumping;
            happens = record {
              at = record { last = t; others = []; is = refl };
              ready = refl;
              allowed = refl;
              free = refl;
              is = refl;
              says = refl;
            };
            is = refl;
          },
          (
            third,
            record {
              replica = opened;
              happens = record { came = omega arith; ready = refl; is = refl; silent = refl };
              is = refl;
            },
            (
              last,
              record {
                replica = loaded;
                happens = record { came = contains_first message []; ready = refl; is = refl; silent = refl };
                is = refl;
              },
              refl,
            ),
          ),
        ),
      );
      copy = refl;
    }
