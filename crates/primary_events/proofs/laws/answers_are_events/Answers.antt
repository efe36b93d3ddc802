use Rattle.primary_events.proofs.Answering.{dump_ended, dumped, looked, polled, wanted}
use Rattle.primary_events.proofs.laws.answers_are_events.Goals as goal
use Rattle.std.proofs.Common.{refl}

pub returns-clause-polled : goal.returns-clause-polled
returns-clause-polled c = polled

pub returns-clause-dumped : goal.returns-clause-dumped
returns-clause-dumped c = dumped

pub returns-clause-dump_ended : goal.returns-clause-dump_ended
returns-clause-dump_ended c = dump_ended

pub returns-clause-looked : goal.returns-clause-looked
returns-clause-looked c = looked

pub returns-clause-looked_closed : goal.returns-clause-looked_closed
returns-clause-looked_closed c = λ s. record { is = refl; silent = refl }

pub returns-clause-wanted : goal.returns-clause-wanted
returns-clause-wanted c = wanted
