use Rattle.dump_text.proofs.Again.{text_again}
use Rattle.dump_text.proofs.laws.what_a_dump_spells_is_judged_that_dump.Goals as goal

pub returns : goal.returns
returns c = λ text dump is. text_again text dump is
