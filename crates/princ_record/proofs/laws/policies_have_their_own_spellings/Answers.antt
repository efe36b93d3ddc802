use Rattle.princ_record.specs.PolicyLaws.{policy_field}
use Rattle.princ_record.proofs.OneSpelling.{spelled_once}
use Rattle.princ_record.proofs.laws.policies_have_their_own_spellings.Goals as goal

pub returns : goal.returns
returns c = λ p q f g e. spelled_once policy_field p q f g e
