-- What a replica's call says of its place is an event.
use Rattle.std.proofs.Common.{◌≡◌, ℕ, zero, suc, inl, inr, Bool, true, List, [], ◌∷◌, Option, Some, refl, sym}
use Rattle.std.specs.Prelude.{take}
use Rattle.iprop_truths.specs.Truths.{Message}
use Rattle.kdb_places.specs.Places.{Place}
use Rattle.replica_steps.specs.Bridges.{IsTaskDone, IsTaskStopped, MayBePart}
use Rattle.replica_steps.specs.Replicas.{Replica, Task, WasSent, makes_of, place_after, replica_after, wants_open}

part_of : (before : Option Place) (made : List Place) (after : Option Place) → MayBePart before made after
    → (part : ℕ) × (after ≡ place_after before (take part made))
part_of before [] after h = (zero, h)
part_of before (q ∷ made) after (inl h) = (zero, h)
part_of before (q ∷ made) after (inr h) = let part = part_of (Some q) made after h in (suc part.0, part.1)

pub stopped : (sent : List Message) (r : Replica) (task : Task) (up : Bool) (after : Option Place)
    → r.up ≡ wants_open task → WasSent sent task
    → MayBePart r.place (makes_of r task) after
    → IsTaskStopped sent r task up after
stopped sent r task up after ready came h =
    let part = part_of r.place (makes_of r task) after h in
    record {
      part = part.0;
      new = replica_after r task (take part.0 (makes_of r task)) up;
      happens = record { came = came; ready = ready; is = refl; silent = refl };
      is = sym part.1;
      up_is = refl;
    }

pub done : (sent : List Message) (r : Replica) (task : Task) (after : Option Place) → r.up ≡ wants_open task
    → WasSent sent task
    → after ≡ place_after r.place (makes_of r task)
    → IsTaskDone sent r task after
done sent r task after ready came h = record {
  new = replica_after r task (makes_of r task) true;
  happens = record { came = came; ready = ready; is = refl; silent = refl };
  is = sym h;
}
