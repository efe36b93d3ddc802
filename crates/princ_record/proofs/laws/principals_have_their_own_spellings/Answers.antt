use Rattle.princ_record.specs.PrincLaws.{princ_field}
use Rattle.princ_record.proofs.OneSpelling.{spelled_once}
use Rattle.princ_record.proofs.laws.principals_have_their_own_spellings.Goals as goal

pub returns : goal.returns
returns c = λ p q f g e. spelled_once princ_field p q f g e
