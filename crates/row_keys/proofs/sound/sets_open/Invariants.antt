use Rattle.std.proofs.Common.{take}
use Rattle.std.specs.List.{All}
use Rattle.row_keys.specs.Sound.{AreHeldUnder}
use Rattle.row_keys.proofs.sound.sets_open.Given as goal

abbrev pub invariant-loop-set : goal.invariant-loop-set
invariant-loop-set l = All (AreHeldUnder l.history) (take l.set-index l.sets)
