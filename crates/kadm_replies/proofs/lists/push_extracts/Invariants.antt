use Rattle.std.proofs.Common.{◌≡◌, ◌++◌, drop}
use Rattle.std.specs.List.{flat_map}
use Rattle.kadm_replies.specs.Lists.{extract_line}
use Rattle.kadm_replies.proofs.lists.push_extracts.Given as goal

abbrev pub invariant-loop-extract : goal.invariant-loop-extract
invariant-loop-extract l = l.out.items ++ flat_map extract_line (drop l.extract-index l.extracts)
    ≡ l.fn.out.items ++ flat_map extract_line l.extracts
