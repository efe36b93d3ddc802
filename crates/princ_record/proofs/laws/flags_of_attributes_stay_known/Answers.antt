use Rattle.princ_record.proofs.Attributes.{either_known, part_known}
use Rattle.princ_record.proofs.laws.flags_of_attributes_stay_known.Goals as goal

pub returns-clause-cleared : goal.returns-clause-cleared
returns-clause-cleared c = λ attributes mask are. part_known attributes mask are

pub returns-clause-together : goal.returns-clause-together
returns-clause-together c = λ a b x y. either_known a b x y
