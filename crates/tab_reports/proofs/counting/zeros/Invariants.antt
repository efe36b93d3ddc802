use Rattle.std.proofs.Common.{◌≡◌, map, take}
use Rattle.tab_reports.proofs.counting.zeros.Given as goal

abbrev pub invariant-loop : goal.invariant-loop
invariant-loop l = l.users.items ≡ map (λ _. 0) (take l.index l.policies)
