use Rattle.std.proofs.Common.{◌≡◌, take}
use Rattle.kdb_plain.proofs.copies.copy_items.Given as goal

abbrev pub invariant-loop-policy : goal.invariant-loop-policy
invariant-loop-policy l = l.out.items ≡ take l.policy-index l.policies
