use Rattle.stash_file.proofs.Judged.{each_judged}
use Rattle.stash_file.proofs.laws.each_text_is_judged.Goals as goal

pub returns : goal.returns
returns c = λ text fits. each_judged text fits
