use Rattle.store_files.proofs.Switching.{would_stand, spare_stands, reset_would, stash_would}
use Rattle.store_files.proofs.laws.switches_are_whole.Goals as goal

pub returns-clause-switched : goal.returns-clause-switched
returns-clause-switched c = would_stand

pub returns-clause-spare : goal.returns-clause-spare
returns-clause-spare c = spare_stands

pub returns-clause-reset : goal.returns-clause-reset
returns-clause-reset c = reset_would

pub returns-clause-stash : goal.returns-clause-stash
returns-clause-stash c = stash_would
