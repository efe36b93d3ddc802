use Rattle.primary_worlds.proofs.Created.{created_stage}
use Rattle.primary_worlds.proofs.laws.creations_are_events.Goals as goal

pub returns : goal.returns
returns c = created_stage
