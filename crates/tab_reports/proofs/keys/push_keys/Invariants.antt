use Rattle.std.proofs.Common.{◌≡◌, ◌++◌, drop}
use Rattle.tab_reports.specs.Keys.{key_lines}
use Rattle.tab_reports.proofs.keys.push_keys.Given as goal

abbrev pub invariant-loop-index : goal.invariant-loop-index
invariant-loop-index l =
    l.out.items ++ key_lines l.name l.index (drop l.index l.items) ≡ l.fn.out.items ++ key_lines l.name 0 l.items
