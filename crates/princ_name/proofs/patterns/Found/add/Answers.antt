-- A wildcard goes behind the others, or there are nine.
use Rattle.princ_name.proofs.Matching.{found_more, found_full}
use Rattle.princ_name.proofs.patterns.Found.add.Goals as goal

pub returns-then-self-lt-HITS : goal.returns-then-self-lt-HITS
returns-then-self-lt-HITS c = λ places h. found_more places c.args.place c.args.self.now c.if-self-lt-HITS.true h

pub returns-else-self-lt-HITS : goal.returns-else-self-lt-HITS
returns-else-self-lt-HITS c = λ places h. found_full places c.args.place c.args.self.now c.if-self-lt-HITS.false h
