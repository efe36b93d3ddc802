-- A dump is wanted for lost points alone.
use Rattle.std.proofs.Common.{◌≡◌, ℕ, Bool, List, ◌∷◌, ◌++◌, Option, Some, sym, ◌∙◌, ap, subst}
use Rattle.acl_text.specs.declared.rules.AclLine.{AclLine}
use Rattle.iprop_truths.proofs.Polling.{wanted}
use Rattle.iprop_truths.specs.Polls.{PollReply, WantsDump, poll_reply}
use Rattle.iprop_truths.specs.Pulling.{denies_pull}
use Rattle.iprop_truths.specs.Truths.{Reply}
use Rattle.kdb_base.specs.declared.moments.Point.{Point}
use Rattle.kdb_histories.specs.Histories.{IsHeldInFull}
use Rattle.kdb_histories.specs.Sites.{Polls, is_busy}
use Rattle.kdb_histories.specs.Stages.{Stage, epoch}
use Rattle.kdb_places.specs.Places.{Place, last_entries}
use Rattle.kdb_worlds.specs.Lawful.{IsLawful}
use Rattle.kdb_worlds.specs.Worlds.{AtPrimary, AtReplica, Happens, World}
use Rattle.princ_rows.specs.declared.entries.Entry.{Entry}
use Rattle.princ_name.specs.Names.{NameParts}
use Rattle.replica_steps.specs.Replicas as node
use Rattle.replica_steps.specs.Replicas.{NodePolls, node_reply}
use Rattle.world_laws.specs.Lost.{IsLost, IsLostAt}

-- a message is one reply
reply_is : (r own : PollReply) → Some (Reply r) ≡ Some (Reply own) → r ≡ own
reply_is r own said = cc

lost_for : (denied busy : Bool) (asked : Point) (held : List Entry) (r : PollReply)
    → r ≡ poll_reply denied busy asked held → WantsDump r.code
    → IsLost asked held
lost_for denied busy asked held r is wants =
    wanted denied busy asked held (subst (λ (x : PollReply). WantsDump x.code) is wants)

-- what the place that stands holds, told of the story
full_at : (history others ended : List Stage) (t : Stage) → history ≡ t ∷ others → IsHeldInFull (history ++ ended)
    → t.place.held ≡ last_entries t.place.size (epoch (history ++ ended))
full_at history others ended t is full =
    let here : IsHeldInFull (t ∷ others ++ ended) = subst (λ (x : List Stage). IsHeldInFull (x ++ ended)) is full in
    here.0 ∙ ap (λ (x : List Stage). last_entries t.place.size (epoch (x ++ ended))) (sym is)

pub primary_lost : (w new : World) (client : NameParts) (access : Option (List AclLine)) (asked : Point) (r : PollReply)
    → IsLawful w
    → Happens (AtPrimary (Polls client access asked) (Some (Reply r))) w new → WantsDump r.code → IsLostAt w.site asked
primary_lost w new client access asked r lawful e wants =
    let sends = e.happens in
    let at = sends.at in
    let denied = denies_pull access client in
    let busy = is_busy w.site in
    let same : r ≡ poll_reply denied busy asked at.last.place.held =
    reply_is r (poll_reply denied busy asked at.last.place.held) sends.says in
    let lost = lost_for denied busy asked at.last.place.held r same wants in
    let full = full_at w.site.history at.others w.site.ended at.last at.is lawful.full in
    record { at = at; held = lost; since = subst (IsLost asked) full lost }

pub replica_lost : (w new : World) (i : ℕ) (client : NameParts) (access : Option (List AclLine)) (asked : Point)
    (r : PollReply) (p : Place)
    → (w.replicas i).place ≡ Some p → Happens (AtReplica i (NodePolls client access asked) (Some (Reply r))) w new
    → WantsDump r.code
    → IsLost asked p.held
replica_lost w new i client access asked r p is e wants =
    let sends = e.happens in
    let denied = denies_pull access client in
    let busy = node.is_busy (w.replicas i) in
    let same : r ≡ node_reply (w.replicas i).place denied busy asked =
    reply_is r (node_reply (w.replicas i).place denied busy asked) sends.says in
    let here : r ≡ poll_reply denied busy asked p.held =
    same ∙ ap (λ (x : Option Place). node_reply x denied busy asked) is in
    lost_for denied busy asked p.held r here wants
