use Rattle.std.proofs.Common.{◌<◌, Ok, length, ap, sym, arith}
use Rattle.master_keys.proofs.Chains.{same_blob}
use Rattle.row_keys.specs.Sound.{HoldsOldOne}
use Rattle.row_keys.proofs.Each.{each_all, each_more, not_each}
use Rattle.row_keys.proofs.sound.set_opens.Goals as goal

pub returns-then-not-opened-clause-no : goal.returns-then-not-opened-clause-no
returns-then-not-opened-clause-no c e all =
    let lt : c.loop-key.key-index < length c.args.keys.now = omega arith in
    not_each (HoldsOldOne c.args.history.now) c.args.keys.now c.loop-key.key-index c.key-item.result lt c.key-item.is
    (λ h. c.in_ok-opened.ensures.no (ap Ok c.if-not-opened.true) h.0 (same_blob _ _ c.as_slice.ensures h.1)) all

pub loop-key-preserved : goal.loop-key-preserved
loop-key-preserved c =
    let lt : c.loop-key.key-index < length c.args.keys.now = omega arith in
    let h = c.in_ok-opened.ensures.yes (ap Ok c.if-not-opened.false) in
    each_more (HoldsOldOne c.args.history.now) c.args.keys.now c.loop-key.key-index c.key-item.result lt c.key-item.is
    (h.0, same_blob _ _ (sym c.as_slice.ensures) h.1) c.loop-key.invariant

pub returns-clause-yes : goal.returns-clause-yes
returns-clause-yes c e =
    each_all (HoldsOldOne c.args.history.now) c.args.keys.now c.loop-key.key-index (omega arith) c.loop-key.invariant
