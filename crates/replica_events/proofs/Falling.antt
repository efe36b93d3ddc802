-- What a crash leaves of a replica's files, as events.
use Rattle.std.proofs.Common.{◌≡◌, ◌<◌, ℕ, inl, inr, true, false, List, [], ◌∷◌, ◌++◌, Option}
use Rattle.std.proofs.Common.{Some, None, Result, Err, Ok, refl, sym, ◌∙◌, ap, subst}
use Rattle.std.proofs.lemmas.List.Elements.{All-append, All-cons, All-nil, All-weaker}
use Rattle.iprop_truths.specs.Truths.{Message}
use Rattle.kdb_disk.specs.Files.{Files}
use Rattle.kdb_disk.specs.View.{View}
use Rattle.kdb_places.specs.Places.{Place}
use Rattle.replica_core.specs.Opened.{IsHeldOn, LeavesMade, Opened, place_in as place_of_kept, place_of}
use Rattle.replica_core.specs.Opening.{MayOpen}
use Rattle.store_files.specs.Kept.{IsOnDisk, Kept, place_kept}
use Rattle.kdb_base.specs.declared.outcomes.Refusal.{Refusal}
use Rattle.kdb_base.specs.declared.outcomes.Refusal.TheVariants.{NotADatabase}
use Rattle.replica_events.proofs.Leading.{same_made}
use Rattle.replica_events.specs.At.{FallsBy, FallsTo, IsFall, IsFallOf, IsReplicaAt, PlaceIn}
use Rattle.replica_steps.specs.Bridges.{IsTaskStopped, MayBePart}
use Rattle.replica_steps.specs.Replicas.{Does, DoesPart, Falls, HappensTo, NodeDumps, NodeEndsDump}
use Rattle.replica_steps.specs.Replicas.{NodePolls, NodeServes, Reopen, Replica, ReplicaEvent, ReplicaRun}
use Rattle.replica_steps.specs.Replicas.{Task, WasSent, fallen, makes_of, reopened, task_makes, wants_open}
use Rattle.store_files.specs.Found.{found_in, place_in, recovers}
use Rattle.store_files.specs.Recovery.{IsLike, LeavesPart, RecoversTo}

-- ---- the place at which a crash stopped a call

record PartIn (before : Option Place) (made : List Place) (c : Files) : Type 0 where
  after : Option Place
  part : MayBePart before made after
  stands : PlaceIn after c

part_in : (p : Place) (made : List Place) (c : Files) → LeavesPart p made c → PartIn (Some p) made c
unfolding LeavesPart
part_in p [] c is = record { after = Some p; part = refl; stands = is }
part_in p (q ∷ made) c (inl is) = record { after = Some p; part = inl refl; stands = is }
part_in p (q ∷ made) c (inr rest) = let l =
    part_in q made c rest in record { after = l.after; part = inr l.part; stands = l.stands }

made_in : (before : Option Place) (made : List Place) (c : Files) → LeavesMade before made c → PartIn before made c
made_in (Some p) made c h = part_in p made c h
made_in None [] c none = record { after = None; part = refl; stands = none }
made_in None (q ∷ made) c (inl none) = record { after = None; part = inl refl; stands = none }
made_in None (q ∷ made) c (inr rest) = let l =
    part_in q made c rest in record { after = l.after; part = inr l.part; stands = l.stands }

-- ---- kinds

pub fall_of : (task : Task) (event : ReplicaEvent) → IsFallOf task event → IsFall event
fall_of task (Does own) h = absurd h
fall_of task (DoesPart own part up) h = h.1
fall_of task Falls h = tt
fall_of task (NodeServes room) h = absurd h
fall_of task (NodePolls client access asked) h = absurd h
fall_of task (NodeDumps client access) h = absurd h
fall_of task NodeEndsDump h = absurd h

pub own_fall : (task : Task) (sent : List Message) (r : Replica) (c : Files) → FallsBy (IsFallOf task) sent r c
    → FallsBy IsFall sent r c
own_fall task sent r c h = record {
  events = h.events;
  each = All-weaker (IsFallOf task) IsFall (fall_of task) h.events h.each;
  new = h.new;
  run = h.run;
  stands = h.stands;
  closed = h.closed;
}

-- ---- one event

one_fall : (Kind : ReplicaEvent → Type 0) (sent : List Message) (r new : Replica) (event : ReplicaEvent) (c : Files)
    → Kind event
    → HappensTo sent event r new None → new.up ≡ false → PlaceIn new.place c → FallsBy Kind sent r c
one_fall Kind sent r new event c fall happens closed stands = record {
  events = event ∷ [];
  each = All-cons Kind event [] fall (All-nil Kind);
  new = new;
  run = (new, None, happens, refl);
  stands = stands;
  closed = closed;
}

-- a task that was stopped at what the files stand for
module _ (law : (sent : List Message) (r : Replica) (task : Task) (after : Option Place) → r.up ≡ wants_open task
    → WasSent sent task
    → MayBePart r.place (makes_of r task) after → IsTaskStopped sent r task false after) where
  pub own_falls : (sent : List Message) (r : Replica) (task : Task) (c : Files) → r.up ≡ wants_open task
      → WasSent sent task
      → LeavesMade r.place (makes_of r task) c → FallsBy (IsFallOf task) sent r c
  own_falls sent r task c ready came leaves =
      let l = made_in r.place (makes_of r task) c leaves in
      let e = law sent r task l.after ready came l.part in
      one_fall (IsFallOf task) sent r e.new (DoesPart task e.part false) c (refl, refl) e.happens e.up_is
      (subst (λ (x : Option Place). PlaceIn x c) (sym e.is) l.stands)

  pub own_falls_at : (sent : List Message) (o : Opened) (r : Replica) (task : Task) (c : Files) → IsReplicaAt o r
      → wants_open task ≡ true
      → WasSent sent task → LeavesMade (place_of o) (task_makes o.size (place_of o) task) c
      → FallsBy (IsFallOf task) sent r c
  own_falls_at sent o r task c h open_ came leaves =
      let same = same_made o r task h in
      let own : LeavesMade r.place (makes_of r task) c =
      subst (λ (p : Option Place). LeavesMade p (makes_of r task) c) h.place
      (subst (λ (made : List Place). LeavesMade (place_of o) made c) same leaves) in
      own_falls sent r task c (h.up ∙ sym open_) came own

  pub task_falls_at : (sent : List Message) (o : Opened) (r : Replica) (task : Task) (c : Files) → IsReplicaAt o r
      → wants_open task ≡ true
      → WasSent sent task → LeavesMade (place_of o) (task_makes o.size (place_of o) task) c → FallsTo sent r c
  task_falls_at sent o r task c h open_ came leaves =
      own_fall task sent r c (own_falls_at sent o r task c h open_ came leaves)

  pub own_opening : (sent : List Message) (r : Replica) (n : ℕ) (c : Files) → r.up ≡ false → 0 < n
      → LeavesMade r.place (makes_of r (Reopen n)) c
      → FallsBy (IsFallOf (Reopen n)) sent r c
  own_opening sent r n c closed some leaves = own_falls sent r (Reopen n) c closed some leaves

  pub opening_falls : (sent : List Message) (r : Replica) (n : ℕ) (c : Files) → r.up ≡ false → 0 < n
      → LeavesMade r.place (makes_of r (Reopen n)) c
      → FallsTo sent r c
  opening_falls sent r n c closed some leaves = own_fall (Reopen n) sent r c (own_opening sent r n c closed some leaves)

-- between two calls
pub rest_falls : (sent : List Message) (r : Replica) (c : Files) → PlaceIn r.place c → FallsTo sent r c
rest_falls sent r c stands =
    one_fall IsFall sent r (fallen r) Falls c tt (record { is = refl; silent = refl }) refl stands

-- ---- what the files stand for is all that counts

place_like : (place : Option Place) (c b : Files) → found_in c ≡ found_in b → PlaceIn place b → PlaceIn place c
place_like None c b same h = same ∙ h
place_like (Some p) c b same h = ap place_in same ∙ h

pub images_alike : (v : View) (sent : List Message) (r : Replica) (c : Files)
    → ((b : Files) → v.images b → FallsBy IsFall sent r b) → IsLike v c
    → FallsBy IsFall sent r c
images_alike v sent r c each like =
    let h = each like.before like.was in
    record {
      events = h.events;
      each = h.each;
      new = h.new;
      run = h.run;
      stands = place_like h.new.place c like.before like.same h.stands;
      closed = h.closed;
    }

-- ---- one fall after another

run_more : (sent : List Message) (events more : List ReplicaEvent) (a b d : Replica) → ReplicaRun sent a events b
    → ReplicaRun sent b more d
    → ReplicaRun sent a (events ++ more) d
run_more sent [] more a b d run rest = subst (λ (r : Replica). ReplicaRun sent r more d) run rest
run_more sent (event ∷ events) more a b d run rest =
    (run.0, run.1, run.2, run_more sent events more run.0 b d run.3 rest)

pub falls_join : (sent : List Message) (r : Replica) (b c : Files) (h : FallsBy IsFall sent r b)
    → FallsBy IsFall sent h.new c → FallsBy IsFall sent r c
falls_join sent r b c h k = record {
  events = h.events ++ k.events;
  each = All-append IsFall h.events k.events h.each k.each;
  new = k.new;
  run = run_more sent h.events k.events r h.new k.new h.run k.run;
  stands = k.stands;
  closed = k.closed;
}

-- ---- a replica that is on the disk

pub held_falls : (v : View) (database : Option Kept) (place : Option Place) (c : Files)
    → ((k : Kept) → IsOnDisk k v → RecoversTo (place_kept k) v)
    → place_of_kept database ≡ place → IsHeldOn database v → v.images c → PlaceIn place c
held_falls v None place c law is h image = subst (λ (p : Option Place). PlaceIn p c) is (h.each c image)
held_falls v (Some k) place c law is h image = subst (λ (p : Option Place). PlaceIn p c) is (law k h c image)

-- ---- an opening of files that are read

abbrev place_or : Place → Result Place Refusal → Place
place_or p (Ok q) = q
place_or p (Err why) = p

pub place_is : (place : Option Place) (c : Files) (p : Place) → PlaceIn place c → recovers c ≡ Ok p → place ≡ Some p
place_is None c p none is = let both : ◌≡◌ {A = Result Place Refusal} (Err NotADatabase) (Ok p) =
    sym (ap place_in none) ∙ is in absurd cc
place_is (Some q) c p stands is = ap Some (ap (place_or p) (sym stands ∙ is))

pub opened_falls : ((sent : List Message) (r : Replica) (task : Task) (after : Option Place) → r.up ≡ wants_open task
    → WasSent sent task
    → MayBePart r.place (makes_of r task) after → IsTaskStopped sent r task false after)
    → (v : View) (sent : List Message) (r : Replica) (files c : Files) (h : FallsTo sent r files) (n : ℕ)
    → ((b : Files) → v.images b → FallsTo sent r b) → 0 < n → (found : Result Place Refusal) → recovers files ≡ found
    → MayOpen v n found c
    → FallsTo sent r c
opened_falls law v sent r files c h n each some (Err why) is like = images_alike v sent r c each like
opened_falls law v sent r files c h n each some (Ok p) is (inl like) = images_alike v sent r c each like
opened_falls law v sent r files c h n each some (Ok p) is (inr leaves) =
    let own : LeavesMade h.new.place (makes_of h.new (Reopen n)) c =
    subst (λ (x : Option Place). LeavesMade x (reopened n x) c)
    (sym (place_is h.new.place files p h.stands is)) leaves in
    falls_join sent r files c h (opening_falls law sent h.new n c h.closed some own)
