use Rattle.std.proofs.Common.{arith}
use Rattle.row_keys.proofs.Wrapped.{bytes_there, shown_all, wrapped_all, wrapped_more}
use Rattle.row_keys.proofs.wraps.wrapped_items.Goals as goal

pub confounder_of-confounder-requires : goal.confounder_of-confounder-requires
confounder_of-confounder-requires c =
    bytes_there c.args.master.now c.args.drawn c.args.random.now c.args.items.now c.loop-item.out.items
    c.loop-item.left.now c.loop-item.item-index c.item-item.result (omega arith) c.item-item.is c.loop-item.invariant

pub split_at-requires : goal.split_at-requires
split_at-requires c =
    rw c.taken_len.ensures
    (bytes_there c.args.master.now c.args.drawn c.args.random.now c.args.items.now c.loop-item.out.items
    c.loop-item.left.now c.loop-item.item-index c.item-item.result (omega arith) c.item-item.is c.loop-item.invariant)

pub loop-item-preserved : goal.loop-item-preserved
loop-item-preserved c =
    wrapped_more c.args.master.now c.args.drawn c.args.random.now c.args.items.now c.loop-item.out.items _
    c.loop-item.left.now _ c.loop-item.item-index c.item-item.result c.in_ok-wrapped.wrapped
    (omega arith) c.item-item.is (rw c.confounder_of-confounder.ensures at c.in_ok-wrapped.ensures.item)
    c.in_ok-wrapped.ensures.shows c.in_ok-push.ensures.items (rw c.taken_len.ensures at c.split_at.ensures.back)
    c.loop-item.invariant

pub returns-clause-items : goal.returns-clause-items
returns-clause-items c = wrapped_all c.args.master.now c.args.drawn c.args.random.now c.args.items.now
    c.loop-item.out.items c.loop-item.left.now c.loop-item.item-index (omega arith) c.loop-item.invariant

pub returns-clause-shows : goal.returns-clause-shows
returns-clause-shows c = shown_all c.args.master.now c.args.drawn c.args.random.now c.args.items.now
    c.loop-item.out.items c.loop-item.left.now c.loop-item.item-index (omega arith) c.loop-item.invariant
