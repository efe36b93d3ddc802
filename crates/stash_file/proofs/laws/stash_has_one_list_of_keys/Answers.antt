use Rattle.stash_file.proofs.Uniques.{one_list}
use Rattle.stash_file.proofs.laws.stash_has_one_list_of_keys.Goals as goal

pub returns : goal.returns
returns c = one_list
