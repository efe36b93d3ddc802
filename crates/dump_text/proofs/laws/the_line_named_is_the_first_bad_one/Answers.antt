use Rattle.dump_text.proofs.Firsts.{first_bad}
use Rattle.dump_text.proofs.laws.the_line_named_is_the_first_bad_one.Goals as goal

pub returns : goal.returns
returns c = λ text line e. first_bad text line e
