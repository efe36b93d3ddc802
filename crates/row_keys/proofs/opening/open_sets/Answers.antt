use Rattle.std.proofs.Common.{◌<◌, ◌∙◌, length, arith}
use Rattle.row_keys.specs.Shows.{ShowsSet}
use Rattle.row_keys.proofs.Opened.{beside, opened_more, opened_only}
use Rattle.row_keys.proofs.opening.open_sets.Goals as goal

pub returns-in-Err-clause-only : goal.returns-in-Err-clause-only
returns-in-Err-clause-only c all h =
    let lt : c.loop-set.set-index < length c.args.sets.now = omega arith in
    let here = beside (ShowsSet c.args.history.now) c.args.sets.now all c.loop-set.set-index c.set-item.result lt
    c.set-item.is h in
    c.in-Err.ensures.only here.0 here.1

pub returns-in-Err-clause-wrong : goal.returns-in-Err-clause-wrong
returns-in-Err-clause-wrong c e all h = let memory = returns-in-Err-clause-only c all h in absurd cc

pub loop-set-preserved : goal.loop-set-preserved
loop-set-preserved c =
    let lt : c.loop-set.set-index < length c.args.sets.now = omega arith in
    opened_more (ShowsSet c.args.history.now) c.args.sets.now c.loop-set.plain.items
    _ c.loop-set.set-index c.set-item.result c.in-Ok.set lt c.set-item.is c.in-Ok.ensures.ok c.in-Ok.ensures.only
    c.in_ok-push-in-Ok.ensures.items c.loop-set.invariant

pub returns-clause-only : goal.returns-clause-only
returns-clause-only c all h =
    c.from_vec.ensures ∙ opened_only (ShowsSet c.args.history.now) c.args.sets.now c.loop-set.plain.items all
    c.loop-set.set-index (omega arith) c.loop-set.invariant h
