use Rattle.std.proofs.Common.{List, Ok, ap, subst, sym}
use Rattle.princ_keys.specs.declared.remembered.OldSet.{OldSet}
use Rattle.row_keys.specs.Sound.{OpensOld}
use Rattle.row_keys.proofs.sound.is_sound.Goals as goal

pub returns-then-not-branch-2-clause-no : goal.returns-then-not-branch-2-clause-no
returns-then-not-branch-2-clause-no c e s =
    let j = c.args.judge.now in
    c.in_ok-old_opens.ensures.no j.masters.now j.realm.now j.rows.now.princs c.requires.history
    (ap Ok c.if-not-branch-2.true)
    (subst (λ (old : List OldSet). OpensOld j.masters.now j.realm.now j.rows.now.princs old)
    (sym c.as_slice.ensures) s.old)
