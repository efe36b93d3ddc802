use Rattle.stash_file.proofs.Uniques.{one_keytab}
use Rattle.stash_file.proofs.laws.keytab_has_one_list_of_entries.Goals as goal

pub returns : goal.returns
returns c = one_keytab
