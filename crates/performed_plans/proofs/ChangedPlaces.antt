-- The places that a change makes.
use Rattle.std.proofs.Common.{◌≡◌, Bool, true, false, [], ◌∷◌, refl}
use Rattle.std.specs.Prelude.{if◌then◌else◌}
use Rattle.kdb_histories.specs.Asks.{Ask, clock_of}
use Rattle.kdb_histories.specs.Seen.{changed, did, is_due, moment_at, reset_for, reset_point}
use Rattle.kdb_histories.specs.Stages.{Anew, places, stage}
use Rattle.kdb_places.specs.Places.{Place, committed}
use Rattle.performed_plans.specs.Changes.{change_places}
use Rattle.princ_rows.specs.declared.entries.Op.{Op}

pub places_changed : (ask : Ask) (op : Op) (p : Place) → places (changed ask op p) ≡ change_places (clock_of ask) op p
places_changed ask op p = by (is_due op p)
  where
    by : (due : Bool) → places (if due
        then stage (reset_for (clock_of ask) op p) Anew
        ∷ did ask true op p (committed op (reset_point (clock_of ask) p).time (reset_for (clock_of ask) op p)) ∷ []
        else did ask false op p (committed op (moment_at (clock_of ask) p) p) ∷ [])
        ≡ (if due then reset_for (clock_of ask) op p ∷ committed op (reset_point (clock_of ask) p).time
        (reset_for (clock_of ask) op p) ∷ [] else committed op (moment_at (clock_of ask) p) p ∷ [])
    by true = refl
    by false = refl
