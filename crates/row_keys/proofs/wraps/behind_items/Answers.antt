use Rattle.std.proofs.Common.{arith}
use Rattle.row_keys.proofs.Wrapped.{behind_all, behind_more, behind_there}
use Rattle.row_keys.proofs.wraps.behind_items.Goals as goal

pub split_at-requires : goal.split_at-requires
split_at-requires c =
    rw c.taken_len.ensures (behind_there c.args.drawn c.args.random.now c.args.items.now c.loop-item.left.now
    c.loop-item.item-index c.item-item.result (omega arith) c.item-item.is c.loop-item.invariant)

pub loop-item-preserved : goal.loop-item-preserved
loop-item-preserved c =
    behind_more c.args.drawn c.args.random.now c.args.items.now c.loop-item.left.now _ c.loop-item.item-index
    c.item-item.result (omega arith) c.item-item.is (rw c.taken_len.ensures at c.split_at.ensures.back)
    c.loop-item.invariant

pub returns : goal.returns
returns c = behind_all c.args.drawn c.args.random.now c.args.items.now c.loop-item.left.now c.loop-item.item-index
    (omega arith) c.loop-item.invariant
