use Rattle.princ_record.specs.PrincLaws.{with_keys_fits, other_keys_fit}
use Rattle.princ_record.proofs.laws.keys_may_be_replaced.Goals as goal

pub returns-clause-made : goal.returns-clause-made
returns-clause-made c = λ p version keys f g. with_keys_fits p version keys f g

pub returns-clause-other : goal.returns-clause-other
returns-clause-other c = λ p version keys other v k. other_keys_fit p version keys other v k
