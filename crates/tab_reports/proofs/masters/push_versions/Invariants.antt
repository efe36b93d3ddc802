use Rattle.std.proofs.Common.{◌≡◌, ◌++◌, length}
use Rattle.tab_reports.specs.Masters.{ground_of, versions_text}
use Rattle.tab_reports.proofs.masters.push_versions.Given as goal

abbrev pub invariant-loop-oldest : goal.invariant-loop-oldest
invariant-loop-oldest l =
    l.out.items ++ versions_text (ground_of l.given) l.rest ≡ l.fn.out.items ++ versions_text (ground_of l.given) l.keys

abbrev pub decreases-loop-oldest : goal.decreases-loop-oldest
decreases-loop-oldest l = length l.rest
