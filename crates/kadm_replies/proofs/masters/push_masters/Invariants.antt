use Rattle.std.proofs.Common.{◌≡◌, ◌++◌, drop}
use Rattle.std.specs.List.{flat_map}
use Rattle.kadm_replies.specs.Masters.{master_line}
use Rattle.kadm_replies.proofs.masters.push_masters.Given as goal

abbrev pub invariant-loop-row : goal.invariant-loop-row
invariant-loop-row l =
    l.out.items ++ flat_map master_line (drop l.row-index l.rows) ≡ l.fn.out.items ++ flat_map master_line l.rows
