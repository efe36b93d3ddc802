use Rattle.std.proofs.Common.{take}
use Rattle.std.specs.List.{All}
use Rattle.row_keys.specs.Sound.{HoldsOldOne}
use Rattle.row_keys.proofs.sound.set_opens.Given as goal

abbrev pub invariant-loop-key : goal.invariant-loop-key
invariant-loop-key l = All (HoldsOldOne l.history) (take l.key-index l.keys)
