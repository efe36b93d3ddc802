use Rattle.stash_file.proofs.Judged.{each_keytab_judged}
use Rattle.stash_file.proofs.laws.each_text_is_a_keytab_or_bad.Goals as goal

pub returns : goal.returns
returns c = λ text fits. each_keytab_judged text fits
