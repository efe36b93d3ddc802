use Rattle.stash_file.specs.Keytabs.{has_key}
use Rattle.stash_file.proofs.Uniques.{one_place}
use Rattle.stash_file.proofs.laws.bad_keytab_has_one_place.Goals as goal

pub returns : goal.returns
returns c = one_place has_key
