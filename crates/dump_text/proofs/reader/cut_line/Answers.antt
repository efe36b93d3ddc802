use Rattle.dump_text.proofs.Judging.{found_feed, missed_feed}
use Rattle.dump_text.proofs.reader.cut_line.Goals as goal

pub returns-in-Some-clause-some : goal.returns-in-Some-clause-some
returns-in-Some-clause-some c = found_feed c.args.text.now c.memchr.result c.in-Some.place c.memchr.ensures c.in-Some.is

pub returns-in-None-clause-none : goal.returns-in-None-clause-none
returns-in-None-clause-none c = λ _. missed_feed c.args.text.now c.memchr.result c.memchr.ensures c.in-None.is
