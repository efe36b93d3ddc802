use Rattle.std.proofs.Common.{arith}
use Rattle.tab_reports.proofs.Lines.{key_more, keys_end, none_on, one_on}
use Rattle.tab_reports.proofs.keys.push_keys.Goals as goal

pub loop-index-preserved : goal.loop-index-preserved
loop-index-preserved c =
    one_on c.loop-index.out.items c.push_key.new.out.items _ _ _ _ c.in_ok-push_key.ensures
    (key_more c.args.name.now c.args.items.now c.loop-index.index c.index-items-index.result c.loop-index-test.true
    c.index-items-index.is) c.loop-index.invariant

pub returns : goal.returns
returns c = none_on c.loop-index.out.items _ _ (keys_end c.args.name.now c.args.items.now c.loop-index.index
    (omega (arith, c.loop-index-test.false))) c.loop-index.invariant
