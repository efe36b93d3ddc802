use Rattle.stash_file.proofs.Uniques.{not_bad}
use Rattle.stash_file.proofs.laws.stash_is_bad_nowhere.Goals as goal

pub returns : goal.returns
returns c = not_bad
