use Rattle.std.proofs.Common.{◌<◌, List, Ok, length, ap, subst, sym, arith}
use Rattle.std.specs.List.{All}
use Rattle.princ_keys.specs.declared.remembered.OldKey.{OldKey}
use Rattle.row_keys.specs.Sound.{AreHeldUnder, HoldsOldOne}
use Rattle.row_keys.proofs.Each.{each_all, each_more, not_each}
use Rattle.row_keys.proofs.sound.sets_open.Goals as goal

pub returns-then-not-opened-clause-no : goal.returns-then-not-opened-clause-no
returns-then-not-opened-clause-no c e all =
    let lt : c.loop-set.set-index < length c.args.sets.now = omega arith in
    not_each (AreHeldUnder c.args.history.now) c.args.sets.now c.loop-set.set-index c.set-item.result lt c.set-item.is
    (λ h. c.in_ok-opened.ensures.no (ap Ok c.if-not-opened.true)
    (subst (λ (ks : List OldKey). All (HoldsOldOne c.args.history.now) ks) (sym c.as_slice.ensures) h)) all

pub loop-set-preserved : goal.loop-set-preserved
loop-set-preserved c =
    let lt : c.loop-set.set-index < length c.args.sets.now = omega arith in
    let h = c.in_ok-opened.ensures.yes (ap Ok c.if-not-opened.false) in
    each_more (AreHeldUnder c.args.history.now) c.args.sets.now c.loop-set.set-index c.set-item.result lt c.set-item.is
    (subst (λ (ks : List OldKey). All (HoldsOldOne c.args.history.now) ks) c.as_slice.ensures h) c.loop-set.invariant

pub returns-clause-yes : goal.returns-clause-yes
returns-clause-yes c e =
    each_all (AreHeldUnder c.args.history.now) c.args.sets.now c.loop-set.set-index (omega arith) c.loop-set.invariant
