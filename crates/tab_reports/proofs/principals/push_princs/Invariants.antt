use Rattle.std.proofs.Common.{◌≡◌, ◌++◌, drop}
use Rattle.std.specs.List.{flat_map}
use Rattle.tab_reports.specs.Principals.{princ_line, princs_text}
use Rattle.tab_reports.proofs.principals.push_princs.Given as goal

abbrev pub invariant-loop-row : goal.invariant-loop-row
invariant-loop-row l =
    l.out.items ++ flat_map princ_line (drop l.row-index l.princs) ≡ l.fn.out.items ++ princs_text l.princs
