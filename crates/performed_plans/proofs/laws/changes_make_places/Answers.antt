use Rattle.performed_plans.proofs.ChangedPlaces.{places_changed}
use Rattle.performed_plans.proofs.laws.changes_make_places.Goals as goal

pub returns : goal.returns
returns c = places_changed
