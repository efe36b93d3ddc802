-- The bytes of a replica's run in the order in which they were sent and written.
use Rattle.std.specs.Prelude.{ℕ, ◌≡◌, List, [], ◌∷◌, ◌++◌, Option, Some}
use Rattle.iprop_links.specs.Asking.{IsFront}
use Rattle.kdb_ports.specs.Told.{after_told}
use Rattle.kprop_runs.specs.Runs.{RunEnd}

-- what was sent on all connections, one after the other; the newest stands first
unfoldable pub all_sent : List (List ℕ) → List ℕ
all_sent [] = []
all_sent (text ∷ older) = all_sent older ++ text

-- these are fronts of what is sent and written where nothing stops it
pub record AreFronts (end : RunEnd) (sent : Option (List (List ℕ))) (out : Option (List ℕ)) : Type 0 where
  pub texts : List (List ℕ)
  pub sent_is : sent ≡ Some texts
  pub sent_front : IsFront (all_sent end.sent) (all_sent texts)
  -- what is still to be written
  pub more : List ℕ
  pub out_front : end.out ≡ after_told out more
