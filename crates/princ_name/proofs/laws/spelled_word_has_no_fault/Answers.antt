-- By the reading of the word.
use Rattle.princ_name.proofs.Projections.{name_faultless}
use Rattle.princ_name.proofs.FaultlessWords.{faultless_name}
use Rattle.princ_name.proofs.laws.spelled_word_has_no_fault.Goals as goal

pub returns-clause-faultless : goal.returns-clause-faultless
returns-clause-faultless c = name_faultless

pub returns-clause-spelled : goal.returns-clause-spelled
returns-clause-spelled c = faultless_name
