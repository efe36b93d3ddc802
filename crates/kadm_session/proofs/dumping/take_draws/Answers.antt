use Rattle.kadm_session.proofs.Dumps.{draws_gone}
use Rattle.kadm_session.proofs.dumping.take_draws.Goals as goal

pub returns-in-Ok-clause-taken : goal.returns-in-Ok-clause-taken
returns-in-Ok-clause-taken g c = draws_gone _ _ _ _ c.now-moment.ensures.others c.in-Ok.ensures.rest
