use Rattle.dump_text.proofs.Blanks.{found_blank, missed_blank}
use Rattle.dump_text.proofs.readings.cut_blank.Goals as goal

pub returns-in-Some-clause-front : goal.returns-in-Some-clause-front
returns-in-Some-clause-front c =
    (found_blank c.args.text.now c.memchr.result c.in-Some.place c.memchr.ensures c.in-Some.is).0

pub returns-in-Some-clause-rest : goal.returns-in-Some-clause-rest
returns-in-Some-clause-rest c =
    (found_blank c.args.text.now c.memchr.result c.in-Some.place c.memchr.ensures c.in-Some.is).1

pub returns-in-None-clause-front : goal.returns-in-None-clause-front
returns-in-None-clause-front c = (missed_blank c.args.text.now c.memchr.result c.memchr.ensures c.in-None.is).0

pub returns-in-None-clause-rest : goal.returns-in-None-clause-rest
returns-in-None-clause-rest c = (missed_blank c.args.text.now c.memchr.result c.memchr.ensures c.in-None.is).1
