-- What holds of a replica after every run.
use Rattle.std.proofs.Common.{◌≡◌, ℕ, ◌<◌, Bool, true, false, List, [], ◌∷◌, Option, Some, None, sym, subst, arith}
use Rattle.std.specs.Prelude.{if◌then◌else◌}
use Rattle.std.proofs.lemmas.List.Elements.{All-contains}
use Rattle.iprop_reply.specs.Polls.{is_point}
use Rattle.iprop_truths.proofs.Leading.{has_more, holds_more}
use Rattle.iprop_truths.proofs.Polling.{poll_true}
use Rattle.iprop_truths.specs.Polls.{dumps_busy, nothing_new, poll_denied, reply_of}
use Rattle.iprop_truths.specs.Pulling.{denies_pull}
use Rattle.iprop_truths.specs.Truths.{AreTrue, Dumped, IsOnePerPoint, IsTrueOf, Message, Reply}
use Rattle.kdb_base.specs.declared.moments.Point.{Point}
use Rattle.kdb_places.specs.Places.{Place, contents_of, no_point}
use Rattle.replica_steps.proofs.Copies.{AreCopies, all_copy, loaded_copy, part_copy}
use Rattle.replica_steps.proofs.Copies.{reopened_copies, reply_copies, one_copy}
use Rattle.replica_steps.specs.Replicas.{Does, DoesPart, Falls, HappensTo, Install, IsCopy, MayBeCopy}
use Rattle.replica_steps.specs.Replicas.{NodeDumps, NodeEndsDump, NodePolls, NodeServes, Reopen, Replica}
use Rattle.replica_steps.specs.Replicas.{ReplicaEvent, ReplicaHolds, ReplicaRun, Take, Task, WasSent}
use Rattle.replica_steps.specs.Replicas.{is_busy, makes_of, no_replica, node_reply, size_after}

task_copies : (places : List Place) (sent : List Message) (r : Replica) (task : Task) → IsOnePerPoint places
    → AreTrue places sent
    → ReplicaHolds places r → WasSent sent task
    → AreCopies places (makes_of r task)
task_copies places sent r (Take reply) one told h came =
    reply_copies places r.size r.place reply one h.some h.copy
    (All-contains (IsTrueOf places) sent (Reply reply) told came)
task_copies places sent r (Install dump) one told h came =
    one_copy places r.size r.place dump
    (loaded_copy places r.size r.place dump h.copy h.some (All-contains (IsTrueOf places) sent (Dumped dump) told came))
task_copies places sent r (Reopen n) one told h came = reopened_copies places n r.place h.copy came

task_sized : (sent : List Message) (size : ℕ) (task : Task) → 0 < size → WasSent sent task → 0 < size_after size task
task_sized sent size (Take reply) some came = some
task_sized sent size (Install dump) some came = some
task_sized sent size (Reopen n) some came = came

pub event_copies : (places : List Place) (sent : List Message) (event : ReplicaEvent) (old new : Replica)
    (said : Option Message)
    → IsOnePerPoint places → AreTrue places sent
    → ReplicaHolds places old → HappensTo sent event old new said → ReplicaHolds places new
event_copies places sent (Does task) old new said one told h e = subst (ReplicaHolds places) (sym e.is) (record {
  copy = all_copy places old.place (makes_of old task) h.copy (task_copies places sent old task one told h e.came);
  some = task_sized sent old.size task h.some e.came;
})
event_copies places sent (DoesPart task part up) old new said one told h e =
    subst (ReplicaHolds places) (sym e.is) (record {
      copy =
          part_copy places old.place (makes_of old task) part h.copy
          (task_copies places sent old task one told h e.came);
      some = task_sized sent old.size task h.some e.came;
    })
event_copies places sent Falls old new said one told h e =
    subst (ReplicaHolds places) (sym e.is) (record { copy = h.copy; some = h.some })
event_copies places sent (NodeServes room) old new said one told h e =
    subst (ReplicaHolds places) (sym e.is) (record { copy = h.copy; some = h.some })
event_copies places sent (NodePolls client access asked) old new said one told h e =
    subst (ReplicaHolds places) (sym e.is) h
event_copies places sent (NodeDumps client access) old new said one told h e =
    subst (ReplicaHolds places) (sym e.is) (record { copy = h.copy; some = h.some })
event_copies places sent NodeEndsDump old new said one told h e =
    subst (ReplicaHolds places) (sym e.is) (record { copy = h.copy; some = h.some })

run_copies : (places : List Place) (sent : List Message) (events : List ReplicaEvent) (old new : Replica)
    → IsOnePerPoint places
    → AreTrue places sent → ReplicaHolds places old
    → ReplicaRun sent old events new → ReplicaHolds places new
run_copies places sent [] old new one told h run = subst (ReplicaHolds places) (sym run) h
run_copies places sent (event ∷ events) old new one told h run =
    run_copies places sent events run.0 new one told
    (event_copies places sent event old run.0 run.1 one told h run.2) run.3

pub replica_copies : (places : List Place) (sent : List Message) (events : List ReplicaEvent) (r : Replica)
    → IsOnePerPoint places
    → AreTrue places sent
    → ReplicaRun sent no_replica events r → ReplicaHolds places r
replica_copies places sent events r one told run =
    run_copies places sent events no_replica r one told (record { copy = tt; some = omega arith }) run

-- ---- what it tells as a node

-- without a database it tells of no updates
none_told : (places : List Place) (denied own : Bool) (asked : Point)
    → IsTrueOf places (Reply
    (if denied then reply_of poll_denied asked [] else reply_of (if own then nothing_new else dumps_busy) asked []))
none_told places true own asked = λ code. absurd (omega (arith, code))
none_told places false true asked = λ code. absurd (omega (arith, code))
none_told places false false asked = λ code. absurd (omega (arith, code))

node_true : (places : List Place) (place : Option Place) (denied busy : Bool) (asked : Point) → MayBeCopy places place
    → IsTrueOf places (Reply (node_reply place denied busy asked))
node_true places None denied busy asked copy = none_told places denied (is_point asked no_point) asked
node_true places (Some p) denied busy asked copy = poll_true places denied busy asked p.held (contents_of p) copy.held

says : (places : List Place) (said : Option Message) (own m : Message) → said ≡ Some own → said ≡ Some m
    → IsTrueOf places own → IsTrueOf places m
says places said own m is this true_ = let same : own ≡ m = cc in subst (IsTrueOf places) same true_

nothing : (places : List Place) (said : Option Message) (m : Message) → said ≡ None → said ≡ Some m → IsTrueOf places m
nothing places said m is this = absurd cc

dump_true : (places : List Place) (place : Option Place) (p : Place) → place ≡ Some p → MayBeCopy places place
    → IsTrueOf places (Dumped (contents_of p))
dump_true places place p is copy = let here : IsCopy places p = subst (MayBeCopy places) is copy in here.has

pub told_true : (places : List Place) (sent : List Message) (event : ReplicaEvent) (old new : Replica)
    (said : Option Message) (m : Message)
    → ReplicaHolds places old
    → HappensTo sent event old new said → said ≡ Some m → IsTrueOf places m
told_true places sent (Does task) old new said m h e this = nothing places said m e.silent this
told_true places sent (DoesPart task part up) old new said m h e this = nothing places said m e.silent this
told_true places sent Falls old new said m h e this = nothing places said m e.silent this
told_true places sent (NodeServes room) old new said m h e this = nothing places said m e.silent this
told_true places sent (NodePolls client access asked) old new said m h e this =
    says places said (Reply (node_reply old.place (denies_pull access client) (is_busy old) asked)) m e.says this
    (node_true places old.place (denies_pull access client) (is_busy old) asked h.copy)
told_true places sent (NodeDumps client access) old new said m h e this =
    says places said (Dumped (contents_of e.place)) m e.says this (dump_true places old.place e.place e.at h.copy)
told_true places sent NodeEndsDump old new said m h e this = nothing places said m e.silent this

-- ---- more places

pub copy_more : (q : Place) (places : List Place) (place : Option Place) → MayBeCopy places place
    → MayBeCopy (q ∷ places) place
copy_more q places None copy = tt
copy_more q places (Some p) copy =
    record {
      has = has_more q places (contents_of p) copy.has;
      held = holds_more q places p.held (contents_of p) copy.held;
      sized = copy.sized;
    }

pub replica_more : (q : Place) (places : List Place) (r : Replica) → ReplicaHolds places r → ReplicaHolds (q ∷ places) r
replica_more q places r h = record { copy = copy_more q places r.place h.copy; some = h.some }
