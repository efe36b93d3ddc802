use Rattle.std.proofs.Common.{◌≡◌, map, take}
use Rattle.mkey_admin.proofs.counting.zeros.Given as goal

abbrev pub invariant-loop : goal.invariant-loop
invariant-loop l = l.counts.items ≡ map (λ _. 0) (take l.index l.masters)
