use Rattle.dump_text.proofs.Going.{good_lines}
use Rattle.dump_text.proofs.laws.good_lines_begin_a_dump.Goals as goal

pub returns : goal.returns
returns c = λ text s whole e. good_lines text s whole e
