use Rattle.std.proofs.Common.{take}
use Rattle.std.specs.List.{All}
use Rattle.row_keys.specs.Sound.{IsSound, judged}
use Rattle.row_keys.proofs.sound.first_unsound.Given as goal

abbrev pub invariant-loop-at : goal.invariant-loop-at
invariant-loop-at l = All (IsSound (judged l.judge.masters.now l.judge.realm.now l.judge.secs) l.judge.rows.now)
    (take l.at l.judge.rows.now.princs)
