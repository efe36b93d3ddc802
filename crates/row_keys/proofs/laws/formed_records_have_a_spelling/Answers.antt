use Rattle.row_keys.proofs.Formed.{formed_princ, princ_formed}
use Rattle.row_keys.proofs.laws.formed_records_have_a_spelling.Goals as goal

pub returns : goal.returns
returns c master history p q f none = (princ_formed master history p q f none, formed_princ master history p q f none)
