use Rattle.kdb_base.specs.KeyLaws.{keys_same, same_keys}
use Rattle.kdb_base.proofs.laws.equal_keys_are_one.Goals as goal

pub returns : goal.returns
returns c = λ a b. (same_keys a b, keys_same a b)
