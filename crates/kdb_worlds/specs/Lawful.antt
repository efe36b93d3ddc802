-- What holds of a world after every run.
use Rattle.std.specs.Prelude.{ℕ, ◌≡◌, ◌⊎◌, true, false, List, [], ◌∷◌, Contains, Some}
use Rattle.iprop_truths.specs.Polls.{PollReply, updates_here}
use Rattle.iprop_truths.specs.Truths.{Reply}
use Rattle.kdb_histories.specs.Histories.{IsFolded, IsHeldInFull, IsOneSeen, all_seen}
use Rattle.kdb_histories.specs.Seen.{Seen}
use Rattle.kdb_histories.specs.Sites.{SiteEvent, Creates, Calls, Stops, Crashes, Ends}
use Rattle.kdb_histories.specs.Sites.{Looks, Polls, Dumps, EndsDump, places_of, story_of}
use Rattle.kdb_histories.specs.Stages.{ShowsAt, Stage, onto}
use Rattle.kdb_places.specs.Places.{Place, contents_of, point_of}
use Rattle.replica_steps.specs.Wholes.{IsTakenWhole}
use Rattle.kdb_worlds.specs.Worlds.{AtPrimary, AtReplica, Event, World}

-- The replica's place has the contents of a place of the primary, and its rows show what all deeds up to that one come
-- to.
pub record IsReplicaOf (w : World) (p : Place) : Type 0 where
  pub at : Seen
  pub there : Contains (all_seen (story_of w.site)) at
  pub same : contents_of p ≡ contents_of at.place
  pub shows : ShowsAt p at.state

pub record IsLawful (w : World) : Type 0 where
  -- the primary: its rows show what all changes come to, and it holds its entries in full
  pub folded : IsFolded (story_of w.site)
  pub full : IsHeldInFull (story_of w.site)
  -- a point names one contents and one state
  pub one : IsOneSeen (all_seen (story_of w.site))
  -- a replica with a database has the rows of the place at its point
  pub replicas : (i : ℕ) (p : Place) → (w.replicas i).place ≡ Some p → IsReplicaOf w p
  -- a reply with updates from a replica's own point is taken whole
  pub whole : (i : ℕ) (p : Place) (r : PollReply) → (w.replicas i).place ≡ Some p → Contains w.sent (Reply r)
      → r.code ≡ updates_here
      → r.asked ≡ point_of p → IsTakenWhole (places_of w.site) (w.replicas i).size p r

-- ---- what was acknowledged

-- what is in the one list is in the other, in the same order
abbrev pub IsAmong : List Stage → List Stage → Type 0
IsAmong [] all = Unit {0}
IsAmong (t ∷ some) [] = ⊥
IsAmong (t ∷ some) (u ∷ all) = ((t ≡ u) × IsAmong some all) ⊎ IsAmong (t ∷ some) all

-- since the last creation, the newest first
abbrev pub acknowledged_at : SiteEvent → List Stage → List Stage
acknowledged_at (Creates t true) before = t ∷ []
acknowledged_at (Creates t false) before = []
acknowledged_at (Calls call answer made) before = onto made before
acknowledged_at (Stops call answer made part) before = before
acknowledged_at Crashes before = before
acknowledged_at Ends before = []
acknowledged_at Looks before = before
acknowledged_at (Polls client access asked) before = before
acknowledged_at (Dumps client access) before = before
acknowledged_at EndsDump before = before

abbrev pub acknowledged_by : Event → List Stage → List Stage
acknowledged_by (AtPrimary event said) before = acknowledged_at event before
acknowledged_by (AtReplica which event said) before = before

abbrev pub all_acknowledged : List Event → List Stage → List Stage
all_acknowledged [] before = before
all_acknowledged (event ∷ events) before = all_acknowledged events (acknowledged_by event before)
