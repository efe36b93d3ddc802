-- A task that was done, and one that stopped for want of memory, lead to an open replica.
use Rattle.std.proofs.Common.{◌≡◌, ◌<◌, ℕ, true, false, List, Option, Some}
use Rattle.std.proofs.Common.{None, Result, Ok, Err, refl, sym, ◌∙◌, ap, subst}
use Rattle.iprop_truths.specs.Truths.{Message}
use Rattle.kdb_base.specs.declared.outcomes.Refusal.{Refusal}
use Rattle.kdb_base.specs.declared.outcomes.Refusal.TheVariants.{NotADatabase}
use Rattle.kdb_disk.specs.Files.{Files}
use Rattle.kdb_places.specs.Places.{Place}
use Rattle.replica_core.specs.Opened.{Opened, place_of}
use Rattle.replica_core.specs.Opening.{AnswersOpened}
use Rattle.replica_events.specs.At.{IsReplicaAt, LeadsOn, PlaceIn}
use Rattle.replica_steps.specs.Bridges.{IsTaskStopped, MayBePart}
use Rattle.replica_steps.specs.Replicas.{Does, DoesPart, Install, Reopen, Replica, Take, Task, WasSent, makes_of}
use Rattle.replica_steps.specs.Replicas.{place_after, replica_after, size_after, task_makes, wants_open}
use Rattle.store_files.specs.Found.{place_in, recovers}

size_stays : (task : Task) (n : ℕ) → wants_open task ≡ true → size_after n task ≡ n
size_stays (Take reply) n h = refl
size_stays (Install dump) n h = refl
size_stays (Reopen size) n h = let both : false ≡ true = h in absurd cc

-- the task's places are the replica's own
pub same_made : (o : Opened) (r : Replica) (task : Task) → IsReplicaAt o r
    → task_makes o.size (place_of o) task ≡ makes_of r task
same_made o r task h =
    ap (λ (n : ℕ). task_makes n (place_of o) task) h.size ∙ ap (λ (p : Option Place). task_makes r.size p task) h.place

pub task_done : (sent : List Message) (o new : Opened) (r : Replica) (task : Task) → IsReplicaAt o r
    → wants_open task ≡ true → WasSent sent task
    → place_of new ≡ place_after (place_of o) (task_makes o.size (place_of o) task) → new.size ≡ o.size
    → LeadsOn sent r (Does task) new
task_done sent o new r task h open_ came place size = record {
  new = replica_after r task (makes_of r task) true;
  happens = record { came = came; ready = h.up ∙ sym open_; is = refl; silent = refl };
  at = record {
    place = place ∙ ap (place_after (place_of o)) (same_made o r task h)
        ∙ ap (λ (p : Option Place). place_after p (makes_of r task)) h.place;
    size = size ∙ h.size ∙ sym (size_stays task r.size open_);
    up = refl;
  };
}

-- one that stopped, and stays open
pub task_part : (sent : List Message) (o : Opened) (r : Replica) (task : Task) (n : ℕ) → wants_open task ≡ true
    → o.size ≡ n → r.size ≡ n
    → (e : IsTaskStopped sent r task true (place_of o)) → LeadsOn sent r (DoesPart task e.part true) o
task_part sent o r task n open_ size own e = record {
  new = e.new;
  happens = e.happens;
  at = record {
    place = sym e.is;
    size = size ∙ sym own ∙ sym (size_stays task r.size open_) ∙ sym (ap (λ (x : Replica). x.size) e.happens.is);
    up = e.up_is;
  };
}

pub task_stops : ((sent : List Message) (r : Replica) (task : Task) (after : Option Place) → r.up ≡ wants_open task
    → WasSent sent task
    → MayBePart r.place (makes_of r task) after → IsTaskStopped sent r task true after)
    → (sent : List Message) (o new : Opened) (r : Replica) (task : Task) → IsReplicaAt o r → wants_open task ≡ true
    → WasSent sent task
    → MayBePart (place_of o) (task_makes o.size (place_of o) task) (place_of new) → new.size ≡ o.size
    → (part : ℕ) × LeadsOn sent r (DoesPart task part true) new
task_stops law sent o new r task h open_ came part size =
    let own : MayBePart r.place (makes_of r task) (place_of new) =
    subst (λ (p : Option Place). MayBePart p (makes_of r task) (place_of new)) h.place
    (subst (λ (made : List Place). MayBePart (place_of o) made (place_of new)) (same_made o r task h) part) in
    let e = law sent r task (place_of new) (h.up ∙ sym open_) came own in
    (e.part, task_part sent new r task r.size open_ (size ∙ h.size) refl e)

-- ---- an opening

abbrev place_or : Place → Result Place Refusal → Place
place_or p (Ok q) = q
place_or p (Err why) = p

opened_as : (o : Opened) (n : ℕ) (found : Result Place Refusal) (before : Option Place) (c : Files) → found ≡ recovers c
    → PlaceIn before c
    → AnswersOpened n (Ok o) found → place_of o ≡ place_after before (task_makes n before (Reopen n))
opened_as o n (Ok p) (Some q) c is stands h =
    let same : ◌≡◌ {A = Result Place Refusal} (Ok p) (Ok q) = is ∙ stands in
    subst (λ (x : Place). place_of o ≡ place_after (Some x) (task_makes n (Some x) (Reopen n))) (ap (place_or p) same) h
opened_as o n (Ok p) None c is none h =
    let both : ◌≡◌ {A = Result Place Refusal} (Ok p) (Err NotADatabase) = is ∙ ap place_in none in absurd cc
opened_as o n (Err why) (Some q) c is stands h = let both : ◌≡◌ {A = Result Place Refusal} (Err why) (Ok q) =
    is ∙ stands in absurd cc
opened_as o n (Err why) None c is none h = h.1

pub opened_replica : (sent : List Message) (o : Opened) (r : Replica) (c : Files) (n : ℕ) → r.up ≡ false
    → PlaceIn r.place c → 0 < n
    → AnswersOpened n (Ok o) (recovers c) → o.size ≡ n → LeadsOn sent r (Does (Reopen n)) o
opened_replica sent o r c n closed stands some answer size = record {
  new = replica_after r (Reopen n) (makes_of r (Reopen n)) true;
  happens = record { came = some; ready = closed; is = refl; silent = refl };
  at = record { place = opened_as o n (recovers c) r.place c refl stands answer; size = size; up = refl };
}
