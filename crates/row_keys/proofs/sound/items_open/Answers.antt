use Rattle.std.proofs.Common.{◌<◌, Ok, length, ap, sym, arith}
use Rattle.master_keys.specs.Rewrapping.{HoldsOne}
use Rattle.master_keys.proofs.Chains.{same_blob}
use Rattle.row_keys.proofs.Each.{each_all, each_more, not_each}
use Rattle.row_keys.proofs.sound.items_open.Goals as goal

pub returns-then-not-opened-clause-no : goal.returns-then-not-opened-clause-no
returns-then-not-opened-clause-no c e all =
    let lt : c.loop-item.item-index < length c.args.items.now = omega arith in
    not_each (HoldsOne c.args.master.now) c.args.items.now c.loop-item.item-index c.item-item.result lt c.item-item.is
    (λ h. c.in_ok-opened.ensures.no (ap Ok c.if-not-opened.true) h.0 (same_blob _ _ c.as_slice.ensures h.1)) all

pub loop-item-preserved : goal.loop-item-preserved
loop-item-preserved c =
    let lt : c.loop-item.item-index < length c.args.items.now = omega arith in
    let h = c.in_ok-opened.ensures.yes (ap Ok c.if-not-opened.false) in
    each_more (HoldsOne c.args.master.now) c.args.items.now c.loop-item.item-index c.item-item.result lt c.item-item.is
    (h.0, same_blob _ _ (sym c.as_slice.ensures) h.1) c.loop-item.invariant

pub returns-clause-yes : goal.returns-clause-yes
returns-clause-yes c e =
    each_all (HoldsOne c.args.master.now) c.args.items.now c.loop-item.item-index (omega arith) c.loop-item.invariant
