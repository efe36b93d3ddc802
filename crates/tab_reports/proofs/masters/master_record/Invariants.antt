use Rattle.std.proofs.Common.{◌≡◌, drop}
use Rattle.std.specs.List.{find}
use Rattle.tab_reports.specs.Masters.{is_master_record}
use Rattle.tab_reports.proofs.masters.master_record.Given as goal

abbrev pub invariant-loop-row : goal.invariant-loop-row
invariant-loop-row l = find is_master_record (drop l.row-index l.princs) ≡ find is_master_record l.princs
