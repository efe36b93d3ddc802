use Rattle.std.proofs.Common.{arith}
use Rattle.row_keys.proofs.Wrapped.{old_all, old_more, old_shown}
use Rattle.row_keys.proofs.remembering.wrapped_old_keys.Goals as goal

pub loop-key-preserved : goal.loop-key-preserved
loop-key-preserved c =
    old_more c.args.history.now c.args.random.now c.args.keys.now c.loop-key.out.items _ c.loop-key.left.now _
    c.loop-key.key-index c.key-item.result c.in_ok-wrapped.wrapped
    (omega arith) c.key-item.is (rw c.confounder_of.ensures at c.in_ok-wrapped.ensures.key)
    c.in_ok-wrapped.ensures.shows c.in_ok-push.ensures.items c.split_at.ensures.back c.loop-key.invariant

pub returns-clause-keys : goal.returns-clause-keys
returns-clause-keys c = old_all c.args.history.now c.args.random.now c.args.keys.now c.loop-key.out.items
    c.loop-key.left.now c.loop-key.key-index (omega arith) c.loop-key.invariant

pub returns-clause-shows : goal.returns-clause-shows
returns-clause-shows c = old_shown c.args.history.now c.args.random.now c.args.keys.now c.loop-key.out.items
    c.loop-key.left.now c.loop-key.key-index (omega arith) c.loop-key.invariant
