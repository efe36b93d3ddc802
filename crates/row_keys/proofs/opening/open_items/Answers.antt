use Rattle.std.proofs.Common.{◌<◌, ◌∙◌, length, arith}
use Rattle.row_keys.specs.Shows.{ShowsItem}
use Rattle.row_keys.proofs.Opened.{beside, opened_more, opened_only}
use Rattle.row_keys.proofs.opening.open_items.Goals as goal

pub returns-in-Err-clause-only : goal.returns-in-Err-clause-only
returns-in-Err-clause-only c all h =
    let lt : c.loop-item.item-index < length c.args.items.now = omega arith in
    let here = beside (ShowsItem c.args.master.now) c.args.items.now all c.loop-item.item-index c.item-item.result lt
    c.item-item.is h in
    c.in-Err.ensures.only here.0 here.1

pub returns-in-Err-clause-wrong : goal.returns-in-Err-clause-wrong
returns-in-Err-clause-wrong c e all h =
    let memory = returns-in-Err-clause-only c all h in absurd cc

pub loop-item-preserved : goal.loop-item-preserved
loop-item-preserved c =
    let lt : c.loop-item.item-index < length c.args.items.now = omega arith in
    opened_more (ShowsItem c.args.master.now) c.args.items.now c.loop-item.keys.items
    _ c.loop-item.item-index c.item-item.result c.in-Ok.key lt c.item-item.is c.in-Ok.ensures.ok c.in-Ok.ensures.only
    c.in_ok-push-in-Ok.ensures.items c.loop-item.invariant

pub returns-clause-only : goal.returns-clause-only
returns-clause-only c all h =
    c.from_vec.ensures ∙ opened_only (ShowsItem c.args.master.now) c.args.items.now c.loop-item.keys.items all
    c.loop-item.item-index (omega arith) c.loop-item.invariant h
