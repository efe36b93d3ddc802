-- What holds in every world.
use Rattle.std.proofs.Common.{◌≡◌, ℕ, Bool, true, false, List, [], ◌∷◌, ◌++◌}
use Rattle.std.proofs.Common.{Option, Some, None, refl, sym, subst, arith}
use Rattle.std.specs.Prelude.{nat_eq, take, if◌then◌else◌}
use Rattle.std.proofs.lemmas.List.Elements.{All-cons}
use Rattle.iprop_truths.specs.Truths.{AreTrue, IsOnePerPoint, IsTrueOf, Message}
use Rattle.kdb_histories.proofs.Growing.{StaysValid}
use Rattle.kdb_histories.proofs.Naming.{names_one}
use Rattle.kdb_histories.proofs.SiteRuns.{event_holds, nothing_holds, onto_rest}
use Rattle.kdb_histories.specs.Sites.{Site, SiteEvent, Creates, Calls, Stops, Crashes, Ends, Looks, Polls}
use Rattle.kdb_histories.specs.Sites.{Dumps, EndsDump, HappensAt, SiteHolds, also, places_of, story_of}
use Rattle.kdb_histories.specs.Stages.{Stage, onto, places}
use Rattle.kdb_places.specs.Places.{Place}
use Rattle.replica_steps.proofs.ReplicaRuns.{event_copies, replica_more, told_true}
use Rattle.replica_steps.specs.Replicas.{Replica, ReplicaEvent, ReplicaHolds}
use Rattle.kdb_worlds.specs.Worlds.{AtPrimary, AtReplica, Event, Happens}
use Rattle.kdb_worlds.specs.Worlds.{PrimaryMoves, ReplicaMoves, Run, World, no_world}

pub record HoldsIn (w : World) : Type 0 where
  pub site : SiteHolds w.site w.sent
  pub replicas : (i : ℕ) → ReplicaHolds (places_of w.site) (w.replicas i)

-- ---- what holds of places holds of more of them

more_by : (P : List Place → Type 0) → ((q : Place) (ps : List Place) → P ps → P (q ∷ ps)) → (made stages : List Stage)
    → P (places stages)
    → P (places (onto made stages))
more_by P more [] stages h = h
more_by P more (t ∷ made) stages h = more_by P more made (t ∷ stages) (more t.place (places stages) h)

module _ (P : List Place → Type 0) (more : (q : Place) (ps : List Place) → P ps → P (q ∷ ps)) where
  site_more : (event : SiteEvent) (old new : Site) (said : Option Message) → HappensAt event old new said
      → P (places_of old) → P (places_of new)
  site_more (Creates t up) old new said e h =
      let ended : P (places old.ended) = subst (λ (x : List Stage). P (places (x ++ old.ended))) e.none h in
      subst (λ (x : Site). P (places_of x)) (sym e.is) (more t.place (places old.ended) ended)
  site_more (Calls call answer made) old new said e h =
      let after : P (places (onto made old.history ++ old.ended)) =
      subst (λ (x : List Stage). P (places x)) (onto_rest made old.history old.ended)
      (more_by P more made (story_of old) h) in
      subst (λ (x : Site). P (places_of x)) (sym e.is) after
  site_more (Stops call answer made part) old new said e h =
      let after : P (places (onto (take part made) old.history ++ old.ended)) =
      subst (λ (x : List Stage). P (places x)) (onto_rest (take part made) old.history old.ended)
      (more_by P more (take part made) (story_of old) h) in
      subst (λ (x : Site). P (places_of x)) (sym e.is) after
  site_more Crashes old new said e h = subst (λ (x : Site). P (places_of x)) (sym e.is) h
  site_more Ends old new said e h = subst (λ (x : Site). P (places_of x)) (sym e.is) h
  site_more Looks old new said e h = subst (λ (x : Site). P (places_of x)) (sym e.is) h
  site_more (Polls client access asked) old new said e h = subst (λ (x : Site). P (places_of x)) (sym e.is) h
  site_more (Dumps client access) old new said e h = subst (λ (x : Site). P (places_of x)) (sym e.is) h
  site_more EndsDump old new said e h = subst (λ (x : Site). P (places_of x)) (sym e.is) h

-- ---- events

pub one_in : (w : World) → HoldsIn w → IsOnePerPoint (places_of w.site)
one_in w h = names_one (story_of w.site) h.site.story.rising

primary_event : (valid : StaysValid) (event : SiteEvent) (said : Option Message) (old new : World) → HoldsIn old
    → PrimaryMoves event said old new
    → HoldsIn new
primary_event valid event said old new h e = subst HoldsIn (sym e.is) (record {
  site = event_holds valid event old.site e.site old.sent said h.site e.happens;
  replicas =
      λ i. site_more (λ ps. ReplicaHolds ps (old.replicas i))
      (λ q ps copy. replica_more q ps (old.replicas i) copy) event old.site e.site said e.happens (h.replicas i);
})

told_more : (ps : List Place) (sent : List Message) (said : Option Message) → AreTrue ps sent
    → ((m : Message) → said ≡ Some m → IsTrueOf ps m)
    → AreTrue ps (also said sent)
told_more ps sent None h true_ = h
told_more ps sent (Some m) h true_ = All-cons (IsTrueOf ps) m sent (true_ m refl) h

chosen : (ps : List Place) (here : Bool) (r old : Replica) → ReplicaHolds ps r → ReplicaHolds ps old
    → ReplicaHolds ps (if here then r else old)
chosen ps true r old h k = h
chosen ps false r old h k = k

replica_event : (which : ℕ) (event : ReplicaEvent) (said : Option Message) (old new : World) → HoldsIn old
    → ReplicaMoves which event said old new
    → HoldsIn new
replica_event which event said old new h e =
    let ps = places_of old.site in
    let before = old.replicas which in
    let told = told_more ps old.sent said h.site.told
    (λ m is. told_true ps old.sent event before e.replica said m (h.replicas which) e.happens is) in
    let after =
    event_copies ps old.sent event before e.replica said (one_in old h) h.site.told (h.replicas which) e.happens in
    subst HoldsIn (sym e.is) (record {
      site = record { fresh = h.site.fresh; story = h.site.story; told = told };
      replicas = λ i. chosen ps (nat_eq i which) e.replica (old.replicas i) after (h.replicas i);
    })

event_in : (valid : StaysValid) (event : Event) (old new : World) → HoldsIn old → Happens event old new → HoldsIn new
event_in valid (AtPrimary event said) old new h e = primary_event valid event said old new h e
event_in valid (AtReplica which event said) old new h e = replica_event which event said old new h e

run_in : (valid : StaysValid) (events : List Event) (old new : World) → HoldsIn old → Run old events new → HoldsIn new
run_in valid [] old new h run = subst HoldsIn (sym run) h
run_in valid (event ∷ events) old new h run =
    run_in valid events run.0 new (event_in valid event old run.0 h run.1) run.2

nothing_in : HoldsIn no_world
nothing_in = record { site = nothing_holds; replicas = λ i. record { copy = tt; some = omega arith } }

pub world_holds : (valid : StaysValid) (events : List Event) (w : World) → Run no_world events w → HoldsIn w
world_holds valid events w run = run_in valid events no_world w nothing_in run
