use Rattle.std.proofs.Common.{◌≡◌, ◌++◌, drop}
use Rattle.std.specs.List.{flat_map}
use Rattle.tab_reports.specs.Policies.{policy_line}
use Rattle.tab_reports.proofs.policies.push_counted.Given as goal

abbrev pub invariant-loop-at : goal.invariant-loop-at
invariant-loop-at l = l.out.items ++ flat_map (policy_line l.rows.princs) (drop l.at l.rows.policies)
    ≡ l.fn.out.items ++ flat_map (policy_line l.rows.princs) l.rows.policies
