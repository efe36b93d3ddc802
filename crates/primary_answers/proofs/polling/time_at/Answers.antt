use Rattle.std.proofs.Common.{map}
use Rattle.primary_answers.proofs.Polled.{none_held, runs_held, time_held}
use Rattle.primary_answers.proofs.polling.time_at.Goals as goal
use Rattle.update_log.specs.Logs.{entry_of}

pub returns-in-Some : goal.returns-in-Some
returns-in-Some c = λ first last h.
    time_held first.sno (map entry_of c.args.log.now.held) c.args.sno c.in-Some.entry.now
    (runs_held first last (map entry_of c.args.log.now.held) h) c.in-Some.ensures.some.0 c.in-Some.ensures.some.1

pub returns-in-None : goal.returns-in-None
returns-in-None c = λ first last h. none_held c.args.log.now.held c.args.sno (c.entry.ensures.none c.in-None.is)
