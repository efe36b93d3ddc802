use Rattle.std.proofs.Common.{◌≡◌, drop}
use Rattle.stash_opening.specs.Finding.{first_listed}
use Rattle.stash_opening.proofs.finding.first_listed.Given as goal

abbrev pub invariant-loop-key : goal.invariant-loop-key
invariant-loop-key l = first_listed l.items (drop l.key-index l.keys) ≡ first_listed l.items l.keys
