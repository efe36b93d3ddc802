use Rattle.std.proofs.Common.{◌≡◌, ◌++◌, drop}
use Rattle.std.specs.List.{flat_map}
use Rattle.kadm_replies.specs.Princs.{shown_key_line}
use Rattle.kadm_replies.proofs.princs.push_keys.Given as goal

abbrev pub invariant-loop-key : goal.invariant-loop-key
invariant-loop-key l =
    l.out.items ++ flat_map shown_key_line (drop l.key-index l.keys) ≡ l.fn.out.items ++ flat_map shown_key_line l.keys
