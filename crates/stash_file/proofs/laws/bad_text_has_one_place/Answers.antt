use Rattle.stash_file.specs.Stashes.{has_master_key}
use Rattle.stash_file.proofs.Uniques.{one_place}
use Rattle.stash_file.proofs.laws.bad_text_has_one_place.Goals as goal

pub returns : goal.returns
returns c = one_place has_master_key
