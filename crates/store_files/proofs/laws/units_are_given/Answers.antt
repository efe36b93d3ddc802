use Rattle.store_files.proofs.Changing.{may_stand, rows_given}
use Rattle.store_files.proofs.laws.units_are_given.Goals as goal

pub returns-clause-stands : goal.returns-clause-stands
returns-clause-stands c = may_stand

pub returns-clause-rows : goal.returns-clause-rows
returns-clause-rows c = rows_given
