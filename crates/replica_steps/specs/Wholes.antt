-- A reply that is taken whole.
use Rattle.std.specs.Prelude.{ℕ, ◌≡◌, true, List, length, Some}
use Rattle.iprop_truths.specs.Parts.{end_of}
use Rattle.iprop_truths.specs.Polls.{PollReply}
use Rattle.iprop_truths.specs.Truths.{Has}
use Rattle.kdb_places.specs.Places.{Place, contents_of, last_point, point_of}
use Rattle.replica_steps.specs.Judging.{Updated, all_updated, is_taken, judged}

-- Each update of the reply is made, and the replica stands at the last one's point with the contents of the place
-- there.
pub record IsTakenWhole (places : List Place) (size : ℕ) (p : Place) (r : PollReply) : Type 0 where
  pub taken : is_taken (point_of p) r ≡ true
  pub answer : judged size (Some p) r ≡ Updated (length r.updates)
  pub at : point_of (end_of p (all_updated size r.updates p)) ≡ last_point (point_of p) r.updates
  pub has : Has places (contents_of (end_of p (all_updated size r.updates p)))
