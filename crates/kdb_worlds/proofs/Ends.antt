-- What a world that holds comes to.
use Rattle.std.proofs.Common.{◌≡◌, ℕ, List, [], ◌∷◌, Some, sym, ◌∙◌, ap, subst}
use Rattle.std.specs.List.{All}
use Rattle.std.proofs.lemmas.List.Elements.{All-cons, All-contains, All-nil}
use Rattle.iprop_truths.specs.Truths.{IsTrueOf, Reply}
use Rattle.kdb_base.specs.declared.moments.Point.{Point}
use Rattle.kdb_histories.proofs.Naming.{one_seen, seen_at}
use Rattle.kdb_histories.specs.Histories.{IsFolded, all_seen}
use Rattle.kdb_histories.specs.Seen.{Seen, seen}
use Rattle.kdb_histories.specs.Sites.{places_of, story_of}
use Rattle.kdb_histories.specs.Stages.{ShowsAt, Stage, fold}
use Rattle.kdb_places.specs.Places.{Contents, Place, contents_of, point_of}
use Rattle.kdb_plain.specs.States.{IsValid}
use Rattle.kdb_plain.specs.declared.states.State.{State}
use Rattle.princ_rows.specs.Rows.{RowLists}
use Rattle.replica_steps.proofs.Wholes.{takes_whole}
use Rattle.replica_steps.specs.Replicas.{IsCopy, MayBeCopy}
use Rattle.row_keys.specs.Shows.{Shows}
use Rattle.kdb_worlds.proofs.Runs.{HoldsIn, one_in}
use Rattle.kdb_worlds.specs.Lawful.{IsLawful, IsReplicaOf}
use Rattle.kdb_worlds.specs.Worlds.{World}

-- a place shows its state
abbrev ShowsOwn : Seen → Type 0
ShowsOwn a = ShowsAt a.place a.state

all_show : (stages : List Stage) → IsFolded stages → All ShowsOwn (all_seen stages)
all_show [] h = All-nil ShowsOwn
all_show (t ∷ older) h = All-cons ShowsOwn (seen t.place (fold (t ∷ older))) (all_seen older) h.0 (all_show older h.1)

-- a place with the same contents shows the same state
shows_same : (p q : Place) (s : State) → contents_of p ≡ contents_of q → ShowsAt q s → ShowsAt p s
shows_same p q s same h =
    let at : point_of p ≡ point_of q = ap (λ (c : Contents). c.point) same in
    record {
      realm = h.realm ∙ sym (ap (λ (c : Contents). c.realm) same);
      at = h.at ∙ sym at;
      shows = subst (λ (r : RowLists). Shows r s) (sym (ap (λ (c : Contents). c.rows) same)) h.shows;
      valid = subst (λ (x : Point). IsValid x.time s) (sym at) h.valid;
    }

copy_of : (w : World) → HoldsIn w → (i : ℕ) (p : Place) → (w.replicas i).place ≡ Some p → IsCopy (places_of w.site) p
copy_of w h i p is = subst (MayBeCopy (places_of w.site)) is (h.replicas i).copy

replica_of : (w : World) → HoldsIn w → (i : ℕ) (p : Place) → (w.replicas i).place ≡ Some p → IsReplicaOf w p
replica_of w h i p is =
    let has = (copy_of w h i p is).has in
    let there = seen_at (story_of w.site) has.place has.there in
    let same : contents_of p ≡ contents_of there.at.place = has.is ∙ sym (ap contents_of there.is) in
    let shown = All-contains ShowsOwn (all_seen (story_of w.site)) there.at
    (all_show (story_of w.site) h.site.story.folded) there.there in
    record {
      at = there.at;
      there = there.there;
      same = same;
      shows = shows_same p there.at.place there.at.state same shown;
    }

pub lawful : (w : World) → HoldsIn w → IsLawful w
lawful w h = record {
  folded = h.site.story.folded;
  full = h.site.story.full;
  one = one_seen (all_seen (story_of w.site)) h.site.story.rising;
  replicas = replica_of w h;
  whole = λ i p r is came code asked.
      takes_whole (places_of w.site) (w.replicas i).size p r (one_in w h) (h.replicas i).some (copy_of w h i p is)
      (All-contains (IsTrueOf (places_of w.site)) w.sent (Reply r) h.site.told came) code asked;
}
