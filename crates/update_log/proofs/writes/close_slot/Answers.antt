use Rattle.std.proofs.lemmas.Result.{on_ok_weaker}
use Rattle.update_log.proofs.Leaving.{begun_moments, begun_shut}
use Rattle.update_log.proofs.writes.close_slot.Goals as goal

pub returns-clause-moments : goal.returns-clause-moments
returns-clause-moments g c tells block slot two is =
    begun_moments c.args.file c.args.at block slot two is (c.requires.end tells) (c.requires.durable tells)
    (c.close_gate.ensures.moments tells)

pub returns-clause-ok : goal.returns-clause-ok
returns-clause-ok g c tells block slot two is =
    on_ok_weaker c.close_gate.result (λ stands.
    begun_shut c.args.file c.args.at block slot two is (c.requires.end tells) stands) (c.close_gate.ensures.ok tells)
