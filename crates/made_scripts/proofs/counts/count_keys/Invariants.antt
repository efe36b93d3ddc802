use Rattle.std.proofs.Common.{◌≡◌, ◌≤◌, ◌+◌, ◌*◌, drop}
use Rattle.made_scripts.specs.Counts.{keys_in}
use Rattle.made_scripts.proofs.counts.count_keys.Given as goal

-- the keys so far and those of the principals to come are all, and no principal has more than 32
abbrev pub invariant-loop-row : goal.invariant-loop-row
invariant-loop-row l = record {
  told : l.count + keys_in (drop l.row-index l.fn.rows.princs) ≡ keys_in l.fn.rows.princs;
  few : l.count ≤ 32 * l.row-index;
}
