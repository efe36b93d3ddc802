use Rattle.dump_text.proofs.Spelled.{judged_spelled}
use Rattle.dump_text.proofs.laws.what_is_judged_a_dump_is_spelled_so.Goals as goal

pub returns : goal.returns
returns c = λ text dump e. judged_spelled text dump e
