use Rattle.std.proofs.Common.{◌≡◌, ◌++◌, take}
use Rattle.std.specs.List.{flat_map}
use Rattle.plain_keys.proofs.new_keys.normal_salt.Given as goal

abbrev pub invariant-loop-part : goal.invariant-loop-part
invariant-loop-part l =
    l.salt.items ≡ l.initial.salt.items ++ flat_map (λ part. part) (take l.part-index l.fn.name.parts)
