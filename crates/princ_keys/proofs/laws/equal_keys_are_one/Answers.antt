use Rattle.princ_keys.specs.KeyEquality.{equal_item, equal_items}
use Rattle.princ_keys.proofs.laws.equal_keys_are_one.Goals as goal

pub returns-clause-key : goal.returns-clause-key
returns-clause-key c = equal_item

pub returns-clause-list : goal.returns-clause-list
returns-clause-list c = equal_items
