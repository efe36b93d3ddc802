use Rattle.std.proofs.Common.{◌≡◌, map, take}
use Rattle.plain_keys.specs.Keys.{password_key}
use Rattle.plain_keys.proofs.new_keys.password_keys.Given as goal

abbrev pub invariant-loop-etype : goal.invariant-loop-etype
invariant-loop-etype l = l.keys.items ≡ map (password_key l.fn.password l.fn.salt) (take l.etype-index l.etypes)
