use Rattle.store_opening.proofs.Torn.{found_looked, torn_alike, stands_again}
use Rattle.store_opening.proofs.laws.the_last_entry_is_done_again.Goals as goal

pub returns-clause-found : goal.returns-clause-found
returns-clause-found c = found_looked

pub returns-clause-torn : goal.returns-clause-torn
returns-clause-torn c = torn_alike

pub returns-clause-stands : goal.returns-clause-stands
returns-clause-stands c = stands_again
