use Rattle.std.proofs.Common.{drop}
use Rattle.plain_keys.proofs.Drawn.{IsDrawn}
use Rattle.plain_keys.proofs.new_keys.random_keys.Given as goal

abbrev pub invariant-loop-etype : goal.invariant-loop-etype
invariant-loop-etype l = IsDrawn l.keys.items l.left l.fn.random (drop l.etype-index l.etypes) l.etypes
