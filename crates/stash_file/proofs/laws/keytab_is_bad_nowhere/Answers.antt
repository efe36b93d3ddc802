use Rattle.stash_file.proofs.Uniques.{no_bad_keytab}
use Rattle.stash_file.proofs.laws.keytab_is_bad_nowhere.Goals as goal

pub returns : goal.returns
returns c = no_bad_keytab
