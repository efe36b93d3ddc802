use Rattle.std.proofs.Common.{◌≡◌, ◌++◌, drop}
use Rattle.std.specs.List.{flat_map}
use Rattle.tab_reports.specs.Keys.{keys_text, princ_keys}
use Rattle.tab_reports.proofs.keys.push_all_keys.Given as goal

abbrev pub invariant-loop-row : goal.invariant-loop-row
invariant-loop-row l =
    l.out.items ++ flat_map princ_keys (drop l.row-index l.princs) ≡ l.fn.out.items ++ keys_text l.princs
