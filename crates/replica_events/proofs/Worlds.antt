-- What a fall leaves of a replica, in the world that it is in.
use Rattle.std.proofs.Common.{◌≡◌, ◌≢◌, ℕ, Bool, List, [], ◌∷◌, ◌++◌, Option, Some, None, Ok, refl, sym, ◌∙◌, ap, subst}
use Rattle.std.specs.Prelude.{Contains, if◌then◌else◌}
use Rattle.std.specs.List.{All}
use Rattle.std.proofs.lemmas.Bool.{eq-eqb, ne_eqb}
use Rattle.std.proofs.lemmas.List.Elements.{All-head, All-tail, All-weaker}
use Rattle.iprop_truths.specs.Truths.{Message}
use Rattle.kdb_disk.specs.Files.{Files}
use Rattle.kdb_histories.proofs.Growing.{StaysValid}
use Rattle.kdb_histories.specs.Histories.{all_seen}
use Rattle.kdb_histories.specs.Sites.{Site, places_of, story_of}
use Rattle.kdb_places.specs.Places.{Place}
use Rattle.kdb_worlds.proofs.Runs.{world_holds}
use Rattle.kdb_worlds.specs.Lawful.{IsLawful, IsReplicaOf}
use Rattle.kdb_worlds.specs.Worlds.{AtReplica, Event, Happens, Run, World, no_world, with_replica}
use Rattle.replica_events.proofs.Falling.{fall_of, place_is}
use Rattle.replica_events.specs.At.{FallsBy, FallsTo, IsFall, IsFallOf}
use Rattle.replica_events.specs.Falls.{FallsIn}
use Rattle.replica_steps.specs.Replicas.{Does, DoesPart, Falls, HappensTo, IsCopy, MayBeCopy, NodeDumps, NodeEndsDump}
use Rattle.replica_steps.specs.Replicas.{NodePolls, NodeServes, Replica, ReplicaEvent, ReplicaRun, Task}
use Rattle.store_files.specs.Found.{recovers}
use Rattle.world_laws.specs.Opened.{IsReplicaOpened}

-- ---- one replica of many

own_replica : (i : ℕ) (r : Replica) (replicas : ℕ → Replica) → with_replica i r replicas i ≡ r
own_replica i r replicas = ap (λ (here : Bool). if here then r else replicas i) (eq-eqb i i refl)

other_replica : (i j : ℕ) (r : Replica) (replicas : ℕ → Replica) → j ≢ i → with_replica i r replicas j ≡ replicas j
other_replica i j r replicas other = ap (λ (here : Bool). if here then r else replicas j) (ne_eqb j i other)

-- ---- a fall as a run of the world

-- nothing is sent by it
falls_silent : (sent : List Message) (event : ReplicaEvent) (old new : Replica) (said : Option Message) → IsFall event
    → HappensTo sent event old new said → said ≡ None
falls_silent sent (Does task) old new said fall e = absurd fall
falls_silent sent (DoesPart task part up) old new said fall e = e.silent
falls_silent sent Falls old new said fall e = e.silent
falls_silent sent (NodeServes room) old new said fall e = absurd fall
falls_silent sent (NodePolls client access asked) old new said fall e = absurd fall
falls_silent sent (NodeDumps client access) old new said fall e = absurd fall
falls_silent sent NodeEndsDump old new said fall e = absurd fall

falls_in : (events : List ReplicaEvent) (w : World) (i : ℕ) (r : Replica) → All IsFall events
    → ReplicaRun w.sent (w.replicas i) events r
    → FallsIn w i r
falls_in [] w i r each run = record {
  events = [];
  new = w;
  run = refl;
  is = sym run;
  others = λ j other. refl;
  site = refl;
  sent = refl;
}
falls_in (event ∷ events) w i r each run =
    let next : World = record { site = w.site; replicas = with_replica i run.0 w.replicas; sent = w.sent } in
    let silent = falls_silent w.sent event (w.replicas i) run.0 run.1 (All-head IsFall event events each) run.2 in
    let happens : HappensTo w.sent event (w.replicas i) run.0 None =
    subst (λ (x : Option Message). HappensTo w.sent event (w.replicas i) run.0 x) silent run.2 in
    let first : Happens (AtReplica i event None) w next = record { replica = run.0; happens = happens; is = refl } in
    let behind : ReplicaRun w.sent (next.replicas i) events r =
    subst (λ (x : Replica). ReplicaRun w.sent x events r) (sym (own_replica i run.0 w.replicas)) run.3 in
    let rest = falls_in events next i r (All-tail IsFall event events each) behind in
    record {
      events = AtReplica i event None ∷ rest.events;
      new = rest.new;
      run = (next, first, rest.run);
      is = rest.is;
      others = λ j other. rest.others j other ∙ other_replica i j run.0 w.replicas other;
      site = rest.site;
      sent = rest.sent;
    }

pub fall_in : (w : World) (i : ℕ) (c : Files) (h : FallsTo w.sent (w.replicas i) c) → FallsIn w i h.new
fall_in w i c h = falls_in h.events w i h.new h.each h.run

-- of one task alone
pub own_fall_in : (task : Task) (w : World) (i : ℕ) (c : Files) (h : FallsBy (IsFallOf task) w.sent (w.replicas i) c)
    → FallsIn w i h.new
own_fall_in task w i c h =
    falls_in h.events w i h.new (All-weaker (IsFallOf task) IsFall (fall_of task) h.events h.each) h.run

run_append : (events more : List Event) (a b d : World) → Run a events b → Run b more d → Run a (events ++ more) d
run_append [] more a b d run rest = subst (λ (w : World). Run w more d) run rest
run_append (event ∷ events) more a b d run rest = (run.0, run.1, run_append events more run.0 b d run.2 rest)

-- ---- what its files recover to

record Recovered (w : World) (i : ℕ) (p : Place) : Type 0 where
  events : List Event
  new : World
  run : Run no_world events new
  place : (new.replicas i).place ≡ Some p
  site : new.site ≡ w.site

recovered : (events : List Event) (w : World) (i : ℕ) (c : Files) (p : Place) → Run no_world events w
    → FallsTo w.sent (w.replicas i) c
    → recovers c ≡ Ok p → Recovered w i p
recovered events w i c p run h is =
    let f = fall_in w i c h in
    record {
      events = events ++ f.events;
      new = f.new;
      run = run_append events f.events no_world w f.new run f.run;
      place = ap (λ (r : Replica). r.place) f.is ∙ place_is h.new.place c p h.stands is;
      site = f.site;
    }

-- a replica of the world behind it is one of the world before, since the primary is the same
same_primary : (new w : World) (p : Place) → new.site ≡ w.site → IsReplicaOf new p → IsReplicaOf w p
same_primary new w p site h = record {
  at = h.at;
  there = subst (λ (s : Site). Contains (all_seen (story_of s)) h.at) site h.there;
  same = h.same;
  shows = h.shows;
}

module _ (events : List Event) (w : World) (i : ℕ) (c : Files) (p : Place) (run : Run no_world events w)
    (h : FallsTo w.sent (w.replicas i) c)
    (is : recovers c ≡ Ok p) where
  behind : Recovered w i p
  behind = recovered events w i c p run h is

  pub replica_shows : ((events : List Event) (w : World) → Run no_world events w → IsLawful w) → IsReplicaOf w p
  replica_shows law =
      same_primary behind.new w p behind.site ((law behind.events behind.new behind.run).replicas i p behind.place)

  pub replica_opened : ((events : List Event) (w : World) (i : ℕ) (p : Place) → Run no_world events w
      → (w.replicas i).place ≡ Some p → IsReplicaOpened w p)
      → IsReplicaOpened w p
  unfolding same_primary
  replica_opened law =
      let there = law behind.events behind.new i p behind.run behind.place in
      record { copy = same_primary behind.new w p behind.site there.copy; opened = there.opened }

  pub replica_held : (valid : StaysValid) → IsCopy (places_of w.site) p
  replica_held valid =
      let holds = (world_holds valid behind.events behind.new behind.run).replicas i in
      let copy : IsCopy (places_of behind.new.site) p =
      subst (MayBeCopy (places_of behind.new.site)) behind.place holds.copy in
      subst (λ (s : Site). IsCopy (places_of s) p) behind.site copy
