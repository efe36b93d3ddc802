use Rattle.kadm_session.proofs.Reaching.{reached_made}
use Rattle.kadm_session.proofs.laws.reached_places_are_made.Goals as goal

pub returns : goal.returns
returns c = reached_made
