use Rattle.kadm_values.proofs.EtypeLemmas.{listed_end, listed_more, listed_not, text_here}
use Rattle.kadm_values.proofs.etypes.read_all.Goals as goal

pub returns-in-None : goal.returns-in-None
returns-in-None c = listed_not _ _ _ c.loop-at.etypes.items _
    (text_here c.args.items.now c.loop-at.at _ c.loop-at-test.true) c.in-None.ensures c.loop-at.invariant

pub loop-at-preserved : goal.loop-at-preserved
loop-at-preserved c =
    listed_more _ _ _ c.in-Some.etype c.loop-at.etypes.items c.push.new.self.items _
    (text_here c.args.items.now c.loop-at.at _ c.loop-at-test.true) c.in-Some.ensures
    c.in_ok-push-in-Some.ensures.items c.loop-at.invariant

pub returns : goal.returns
returns c = listed_end c.args.items.now c.loop-at.at c.loop-at.etypes.items _ c.loop-at-test.false c.loop-at.invariant
