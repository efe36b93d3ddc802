use Rattle.row_keys.proofs.FormedKeys.{from_formed, new_formed, remembered_formed, settled_formed}
use Rattle.row_keys.proofs.laws.keys_stay_in_form.Goals as goal

pub returns-clause-fresh : goal.returns-clause-fresh
returns-clause-fresh c = new_formed

pub returns-clause-later : goal.returns-clause-later
returns-clause-later c = from_formed

pub returns-clause-settled : goal.returns-clause-settled
returns-clause-settled c = settled_formed

pub returns-clause-remembered : goal.returns-clause-remembered
returns-clause-remembered c = remembered_formed
