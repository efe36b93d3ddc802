use Rattle.kdb_plain.proofs.OwnNames.{history_printed, history_prints, master_prints}
use Rattle.kdb_plain.proofs.laws.own_names_are_printed.Goals as goal

pub returns-clause-master : goal.returns-clause-master
returns-clause-master c = master_prints

pub returns-clause-history : goal.returns-clause-history
returns-clause-history c = history_prints

pub returns-clause-history_fits : goal.returns-clause-history_fits
returns-clause-history_fits c = history_printed
