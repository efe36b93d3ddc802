use Rattle.keytab_out.proofs.adding.entries_of.Goals as goal

pub returns-clause-listed : goal.returns-clause-listed
returns-clause-listed c = c.loop-extract.invariant.1
