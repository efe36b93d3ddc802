use Rattle.store_files.proofs.Placed.{place_after}
use Rattle.store_files.proofs.laws.changes_have_their_places.Goals as goal

pub returns : goal.returns
returns c = place_after
