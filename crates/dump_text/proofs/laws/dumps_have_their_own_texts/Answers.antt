use Rattle.std.proofs.Common.{◌∙◌, sym}
use Rattle.dump_text.proofs.Again.{same_ok, text_again}
use Rattle.dump_text.proofs.laws.dumps_have_their_own_texts.Goals as goal

pub returns : goal.returns
returns c = λ text a b first second. same_ok a b (sym (text_again text a first) ∙ text_again text b second)
