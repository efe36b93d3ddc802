use Rattle.kprop_runs.proofs.Saying.{said_nothing}
use Rattle.kprop_runs.proofs.lines.say_round.Goals as goal

pub returns-in-Err-clause-err : goal.returns-in-Err-clause-err
returns-in-Err-clause-err g c = said_nothing _ (g.K.Sink.taken c.args.sink.now)
