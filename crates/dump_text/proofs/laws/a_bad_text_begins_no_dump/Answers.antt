use Rattle.dump_text.proofs.Going.{bad_text}
use Rattle.dump_text.proofs.laws.a_bad_text_begins_no_dump.Goals as goal

pub returns : goal.returns
returns c = λ text line bad begins. bad_text text line bad begins
