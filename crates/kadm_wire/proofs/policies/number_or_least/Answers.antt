use Rattle.kadm_wire.proofs.WordLemmas.{given_within}
use Rattle.kadm_wire.proofs.policies.number_or_least.Goals as goal

pub returns-in-Some-clause-from : goal.returns-in-Some-clause-from
returns-in-Some-clause-from c = (given_within c.args.least c.args.most _ c.in-Some.number c.in-Some.ensures).0

pub returns-in-Some-clause-to : goal.returns-in-Some-clause-to
returns-in-Some-clause-to c = (given_within c.args.least c.args.most _ c.in-Some.number c.in-Some.ensures).1
