use Rattle.std.proofs.Common.{◌≡◌, ◌<◌, ◌≤◌, List, Ok, length, get_or, ap, subst, ◌∙◌, arith}
use Rattle.princ_record.specs.declared.princs.Princ.{Princ}
use Rattle.row_keys.specs.Sound.{IsSound, judged}
use Rattle.row_keys.proofs.Each.{each_all, each_more}
use Rattle.row_keys.proofs.sound.first_unsound.Goals as goal

pub loop-at-preserved : goal.loop-at-preserved
loop-at-preserved c =
    let j = c.args.judge.now in
    let princs = c.princs-row-items.ensures.value in
    let lt : c.loop-at.at < length j.rows.now.princs =
    omega (arith, ap (λ (ps : List Princ). length ps) princs, c.loop-at-test.true) in
    let is : c.row-item.result ≡ get_or j.rows.now.princs c.loop-at.at c.row-item.result =
    c.row-item.is ∙ ap (λ (ps : List Princ). get_or ps c.loop-at.at c.row-item.result) princs in
    each_more (IsSound (judged j.masters.now j.realm.now j.secs) j.rows.now) j.rows.now.princs c.loop-at.at
    c.row-item.result lt is
    (subst (λ (p : Princ). IsSound (judged j.masters.now j.realm.now j.secs) j.rows.now p) c.get.ensures
    (c.in_ok-is_sound.ensures.yes (ap Ok c.if-not-branch.false))) c.loop-at.invariant

pub returns-clause-none : goal.returns-clause-none
returns-clause-none c e =
    let j = c.args.judge.now in
    let le : length j.rows.now.princs ≤ c.loop-at.at =
    omega (arith, ap (λ (ps : List Princ). length ps) c.princs-row-items.ensures.value, c.loop-at-test.false) in
    each_all (IsSound (judged j.masters.now j.realm.now j.secs) j.rows.now) j.rows.now.princs c.loop-at.at le
    c.loop-at.invariant
