-- A creation, a dump that a replica loads, a policy that is added, a poll, and the update that the replica takes.
use Rattle.std.proofs.Common.{◌≡◌, ℕ, ◌-◌, ◌<◌, ◌≤◌, Bool, true, false, List, [], ◌∷◌, ◌++◌}
use Rattle.std.proofs.Common.{drop, length, Some, None, refl, sym, ◌∙◌, ap, subst, arith}
use Rattle.std.specs.Prelude.{if◌then◌else◌}
use Rattle.iprop_reply.proofs.Serials.{point_same}
use Rattle.iprop_reply.specs.Polls.{updates_after}
use Rattle.iprop_truths.proofs.Members.{contains_first}
use Rattle.iprop_truths.specs.Parts.{end_of}
use Rattle.iprop_truths.specs.Polls.{PollReply, poll_reply, told_of}
use Rattle.iprop_truths.specs.Truths.{Dumped, Has, Message, Reply}
use Rattle.kadm_commands.specs.declared.replies.Reply.TheVariants as reply
use Rattle.kdb_base.specs.Limits.{most_rows}
use Rattle.kdb_base.specs.declared.moments.Point.{Point}
use Rattle.kdb_histories.proofs.Growing.{StaysValid}
use Rattle.kdb_histories.specs.Asks.{Replied}
use Rattle.kdb_histories.specs.Calls.{Perform}
use Rattle.kdb_histories.specs.Histories.{IsCreation}
use Rattle.kdb_histories.specs.Seen.{is_due, moment_at}
use Rattle.kdb_histories.specs.Sites.{Calls, Creates, Dumps, Polls, Site, after_call}
use Rattle.kdb_histories.specs.Sites.{begun, no_site, places_of, with_dumps}
use Rattle.kdb_histories.specs.Stages.{Filled, ShowsAt, Stage, stage}
use Rattle.kdb_model.specs.Laws.{IsMoment}
use Rattle.kdb_places.proofs.Points.{committed_point, first_point}
use Rattle.kdb_places.specs.Places.{Place, base_marker, change, contents_of, last_entries, no_point, point_of}
use Rattle.kdb_plain.specs.declared.states.State.{State}
use Rattle.kdb_worlds.proofs.Ends.{lawful}
use Rattle.kdb_worlds.proofs.Runs.{HoldsIn, one_in, world_holds}
use Rattle.kdb_worlds.specs.Worlds.{AtPrimary, AtReplica, Event, Happens, Run, World, no_world, with_replica}
use Rattle.princ_rows.specs.declared.entries.Entry.{Entry}
use Rattle.princ_record.specs.Policies.{IsPolicy}
use Rattle.replica_steps.specs.Judging.{all_updated}
use Rattle.replica_steps.specs.Replicas.{Does, Install, Reopen, Replica, Take, loaded}
use Rattle.replica_steps.specs.Replicas.{makes_of, no_replica, place_after, replica_after}
use Rattle.replica_steps.specs.Wholes.{IsTakenWhole}
use Rattle.world_laws.proofs.Adding.{MayAdd, performs}
use Rattle.world_laws.specs.Examples.{Adding, LeadsToUpdate, added_place, added_point, added_stage}
use Rattle.world_laws.specs.Examples.{adding_ask, adding_op, update_events, update_reply}

-- ---- a run and one event more

run_push : (events : List Event) (old mid new : World) (event : Event) → Run old events mid → Happens event mid new
    → Run old (events ++ event ∷ []) new
run_push [] old mid new event run e = (new, subst (λ (x : World). Happens event x new) run e, refl)
run_push (first ∷ events) old mid new event run e = (run.0, run.1, run_push events run.0 mid new event run.2 e)

two_entries : (size : ℕ) (x y : Entry) → 2 ≤ size → last_entries size (x ∷ y ∷ []) ≡ x ∷ y ∷ []
two_entries size x y some =
    let none : 2 - size ≡ 0 = omega (arith, some) in
    ap (λ (k : ℕ). drop k (x ∷ y ∷ [])) none

place_end : (p : Place) (made : List Place) → place_after (Some p) made ≡ Some (end_of p made)
place_end p [] = refl
place_end p (q ∷ made) = place_end q made

-- What is needed of the place and of its state: it is that of a creation, with no policy and room for one.
pub record MayRun (a : Adding) (p : Place) (s : State) : Type 0 where
  pub creation : IsCreation [] (stage p (Filled s))
  pub newer : p.format ≡ 2
  pub least : 2 ≤ p.size
  pub none : s.policies ≡ []
  pub room : length s.princs < most_rows
  pub policy : IsPolicy a.policy
  pub clock : IsMoment a.clock
  pub due : is_due (adding_op a) p ≡ false

module _ (valid : StaysValid) (a : Adding) (p : Place) (s : State) (h : MayRun a p s) where
  -- ---- the primary, the replica and the messages, one after the other

  abbrev First : Stage
  First = stage p (Filled s)

  abbrev Second : Stage
  Second = added_stage a p

  abbrev Dump : Message
  Dump = Dumped (contents_of p)

  abbrev Told : PollReply
  Told = update_reply a p

  abbrev Made : Site
  Made = begun First true no_site

  abbrev Dumping : Site
  Dumping = with_dumps 1 Made

  abbrev Stood : Site
  Stood = after_call (Perform (adding_ask a)) (Second ∷ []) true Dumping

  abbrev Opened : Replica
  Opened = replica_after no_replica (Reopen 1000) [] true

  abbrev Copy : Place
  Copy = loaded 1000 None (contents_of p)

  abbrev Holding : Replica
  Holding = replica_after Opened (Install (contents_of p)) (makes_of Opened (Install (contents_of p))) true

  abbrev Taken : Replica
  Taken = replica_after Holding (Take Told) (makes_of Holding (Take Told)) true

  abbrev World1 : World
  World1 = record { site = Made; replicas = λ i. no_replica; sent = [] }

  abbrev World2 : World
  World2 = record { site = Dumping; replicas = λ i. no_replica; sent = Dump ∷ [] }

  abbrev World3 : World
  World3 = record { site = Dumping; replicas = with_replica 0 Opened (λ i. no_replica); sent = Dump ∷ [] }

  abbrev World4 : World
  World4 = record { site = Dumping; replicas = with_replica 0 Holding World3.replicas; sent = Dump ∷ [] }

  abbrev World5 : World
  World5 = record { site = Stood; replicas = World4.replicas; sent = Dump ∷ [] }

  abbrev World6 : World
  World6 = record { site = Stood; replicas = World4.replicas; sent = Reply Told ∷ Dump ∷ [] }

  abbrev World7 : World
  World7 = record { site = Stood; replicas = with_replica 0 Taken World6.replicas; sent = Reply Told ∷ Dump ∷ [] }

  -- ---- the creation, and what its place shows

  event1 : Happens (AtPrimary (Creates First true) None) no_world World1
  event1 = record {
    site = Made;
    happens = record { none = refl; creation = h.creation; newer = λ up. h.newer; is = refl; silent = refl };
    is = refl;
  }

  shown : ShowsAt p s
  shown =
      let events = AtPrimary (Creates First true) None ∷ [] in
      let run : Run no_world events World1 = (World1, event1, refl) in
      let folded = (lawful World1 (world_holds valid events World1 run)).folded in
      folded.0

  -- ---- the reply

  held_is : (added_place a p).held ≡ base_marker (point_of p) ∷ change (adding_op a) (added_point a p) ∷ []
  held_is =
      let base = h.creation.point in
      let e = change (adding_op a) (added_point a p) in
      let held : p.held ≡ base_marker base ∷ [] = ap (λ (x : Place). x.held) h.creation.is in
      let at : point_of p ≡ base = ap point_of h.creation.is ∙ first_point no_point (base_marker base) in
      let same : p.held ≡ base_marker (point_of p) ∷ [] = held ∙ ap (λ (x : Point). base_marker x ∷ []) (sym at) in
      ap (λ (x : List Entry). last_entries p.size (x ++ e ∷ [])) same
      ∙ two_entries p.size (base_marker (point_of p)) e h.least

  after_is : updates_after (point_of p) (added_place a p).held ≡ Some (Told.updates)
  unfolding updates_after
  after_is =
      let same = point_same (point_of p) (point_of p) refl refl in
      ap (updates_after (point_of p)) held_is
      ∙ ap (λ (x : Bool). if x then Some Told.updates else updates_after (point_of p) Told.updates) same

  told_is : (busy : Bool) → poll_reply false busy (point_of p) (added_place a p).held ≡ Told
  told_is busy = ap (told_of busy (point_of p)) after_is

  -- ---- the events

  event2 : Happens (AtPrimary (Dumps a.client None) (Some Dump)) World1 World2
  event2 = record {
    site = Dumping;
    happens = record {
      at = record { last = First; others = []; is = refl };
      ready = refl;
      allowed = refl;
      free = refl;
      is = refl;
      says = refl;
    };
    is = refl;
  }

  event3 : Happens (AtReplica 0 (Does (Reopen 1000)) None) World2 World3
  event3 = record {
    replica = Opened;
    happens = record { came = omega arith; ready = refl; is = refl; silent = refl };
    is = refl;
  }

  event4 : Happens (AtReplica 0 (Does (Install (contents_of p))) None) World3 World4
  event4 = record {
    replica = Holding;
    happens = record { came = contains_first Dump []; ready = refl; is = refl; silent = refl };
    is = refl;
  }

  may_add : MayAdd a p s
  may_add =
      record {
        shows = shown;
        none = h.none;
        room = h.room;
        policy = h.policy;
        clock = h.clock;
        newer = h.newer;
        due = h.due;
      }

  event5 : Happens (AtPrimary (Calls (Perform (adding_ask a)) (Replied (reply.Done (added_point a p))) (Second ∷ []))
      None) World4 World5
  event5 = record {
    site = Stood;
    happens = record {
      at = record { last = First; others = []; is = refl };
      ready = refl;
      clock = h.clock;
      makes = performs a p s may_add valid;
      is = refl;
      silent = refl;
    };
    is = refl;
  }

  event6 : Happens (AtPrimary (Polls a.client None (point_of p)) (Some (Reply Told))) World5 World6
  event6 = record {
    site = Stood;
    happens = record {
      at = record { last = Second; others = First ∷ []; is = refl };
      ready = refl;
      is = refl;
      says = ap (λ (x : PollReply). Some (Reply x)) (sym (told_is true));
    };
    is = refl;
  }

  event7 : Happens (AtReplica 0 (Does (Take Told)) None) World6 World7
  event7 = record {
    replica = Taken;
    happens = record { came = contains_first (Reply Told) (Dump ∷ []); ready = refl; is = refl; silent = refl };
    is = refl;
  }

  abbrev Six : List Event
  Six =
      AtPrimary (Creates First true) None
      ∷ AtPrimary (Dumps a.client None) (Some Dump)
      ∷ AtReplica 0 (Does (Reopen 1000)) None
      ∷ AtReplica 0 (Does (Install (contents_of p))) None
      ∷ AtPrimary (Calls (Perform (adding_ask a)) (Replied (reply.Done (added_point a p))) (Second ∷ [])) None
      ∷ AtPrimary (Polls a.client None (point_of p)) (Some (Reply Told))
      ∷ []

  six_run : Run no_world Six World6
  six_run =
      (World1, event1, (World2, event2, (World3, event3, (World4, event4, (World5, event5, (World6, event6, refl))))))

  -- ---- the update

  held_in : HoldsIn World6
  held_in = world_holds valid Six World6 six_run

  whole : IsTakenWhole (places_of Stood) 1000 Copy Told
  whole =
      (lawful World6 held_in).whole 0 Copy Told refl (contains_first (Reply Told) (Dump ∷ [])) refl
      (sym (first_point no_point (base_marker (point_of p))))

  abbrev Last : Place
  Last = end_of Copy (all_updated 1000 Told.updates Copy)

  there : (World7.replicas 0).place ≡ Some Last
  there =
      ap (λ (x : Bool). place_after (Some Copy) (if x then all_updated 1000 Told.updates Copy else [])) whole.taken
      ∙ place_end Copy (all_updated 1000 Told.updates Copy)

  same_is : contents_of Last ≡ contents_of (added_place a p)
  same_is =
      let q = added_place a p in
      let here : Has (places_of Stood) (contents_of q) =
      record { place = q; there = contains_first q (p ∷ []); is = refl } in
      let some : 0 < p.size = omega (arith, h.least) in
      let at : point_of Last ≡ point_of q =
      whole.at
      ∙ first_point (point_of Copy) (change (adding_op a) (added_point a p))
      ∙ sym (committed_point (adding_op a) (moment_at a.clock p) p some) in
      one_in World6 held_in (contents_of Last) (contents_of q) whole.has here at

  pub updates : LeadsToUpdate (update_events a p s) (added_place a p)
  updates = record {
    world = World7;
    run = run_push Six no_world World6 World7 (AtReplica 0 (Does (Take Told)) None) six_run event7;
    at = record { last = Second; others = First ∷ []; is = refl };
    last = refl;
    copy = Last;
    there = there;
    same = same_is;
  }
