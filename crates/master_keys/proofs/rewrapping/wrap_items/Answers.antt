use Rattle.std.proofs.Common.{◌<◌, length, subst, arith}
use Rattle.std.specs.List.{AllZip}
use Rattle.std.proofs.lemmas.List.{take_all}
use Rattle.master_keys.specs.Rewrapping.{Holds}
use Rattle.master_keys.proofs.Rewrapped.{with_keys_all, with_keys_more, zip_both, zip_more_right}
use Rattle.master_keys.proofs.SideBySide.{zip_length}
use Rattle.master_keys.proofs.rewrapping.wrap_items.Goals as goal

pub bounds-keys-at : goal.bounds-keys-at
bounds-keys-at c = let len = zip_length _ _ _ c.requires.types in omega arith

pub wrap_item-requires : goal.wrap_item-requires
wrap_item-requires c =
    zip_both _ _ _ c.loop-at.at _ _ c.requires.types c.loop-at-test.true c.index-items-at.is c.index-keys-at.is

pub loop-at-preserved : goal.loop-at-preserved
loop-at-preserved c =
    let len = zip_length _ _ _ c.requires.types in
    let lt : c.loop-at.at < length c.args.keys.now = omega arith in
    let confounder = c.confounder-confounder.ensures in
    record {
      items = with_keys_more c.args.master.now c.args.random.now c.args.place c.args.items.now c.args.keys.now
          c.loop-at.at c.index-items-at.result c.in_ok-item.item c.index-keys-at.result c.loop-at.out.items _ _
          c.loop-at-test.true lt c.index-items-at.is c.index-keys-at.is
          (rw confounder at c.in_ok-item.ensures.item) c.in_ok-push.ensures.items c.loop-at.invariant.items;
      holds = rw c.in_ok-push.ensures.items
          (zip_more_right (Holds c.args.master.now) c.loop-at.out.items c.args.keys.now c.loop-at.at c.in_ok-item.item
          c.index-keys-at.result lt c.index-keys-at.is c.loop-at.invariant.holds c.in_ok-item.ensures.holds);
    }

pub returns-clause-items : goal.returns-clause-items
returns-clause-items c =
    with_keys_all c.args.master.now c.args.random.now c.args.place c.args.items.now c.args.keys.now c.loop-at.at
    c.loop-at.out.items _ c.loop-at-test.false c.loop-at.invariant.items

pub returns-clause-holds : goal.returns-clause-holds
returns-clause-holds c =
    let len = zip_length _ _ _ c.requires.types in
    subst (λ keys. AllZip (Holds c.args.master.now) c.loop-at.out.items keys)
    (take_all c.loop-at.at c.args.keys.now (omega arith)) c.loop-at.invariant.holds
