use Rattle.std.proofs.Common.{◌≡◌, ◌++◌, drop}
use Rattle.std.specs.List.{flat_map}
use Rattle.kadm_replies.specs.Lists.{string_line}
use Rattle.kadm_replies.proofs.lists.push_strings.Given as goal

abbrev pub invariant-loop-attribute : goal.invariant-loop-attribute
invariant-loop-attribute l = l.out.items ++ flat_map string_line (drop l.attribute-index l.attributes)
    ≡ l.fn.out.items ++ flat_map string_line l.attributes
