use Rattle.tab_reports.proofs.Lines.{causes_same}
use Rattle.tab_reports.proofs.laws.causes_are_those_of_a_purge.Goals as goal

pub returns : goal.returns
returns c = causes_same
