use Rattle.std.proofs.Common.{◌≡◌, ◌++◌, drop}
use Rattle.std.specs.List.{flat_map}
use Rattle.kadm_replies.specs.Texts.{data_line}
use Rattle.kadm_replies.proofs.lists.push_names.Given as goal

abbrev pub invariant-loop-name : goal.invariant-loop-name
invariant-loop-name l =
    l.out.items ++ flat_map data_line (drop l.name-index l.names) ≡ l.fn.out.items ++ flat_map data_line l.names
