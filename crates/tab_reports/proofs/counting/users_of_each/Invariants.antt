use Rattle.std.proofs.Common.{take}
use Rattle.tab_reports.specs.Noting.{AreCounted}
use Rattle.tab_reports.proofs.counting.users_of_each.Given as goal

-- the principals of before are counted
abbrev pub invariant-loop-row : goal.invariant-loop-row
invariant-loop-row l = AreCounted l.users.items l.fn.rows.policies (take l.row-index l.fn.rows.princs)
