use Rattle.std.proofs.Common.{◌<◌, ◌∙◌, length, sym, arith}
use Rattle.master_keys.proofs.Chains.{same_blob}
use Rattle.row_keys.specs.Shows.{ShowsOldKey}
use Rattle.row_keys.proofs.Opened.{beside, opened_more, opened_only}
use Rattle.row_keys.proofs.opening.open_old_keys.Goals as goal

pub returns-in-Err-clause-only : goal.returns-in-Err-clause-only
returns-in-Err-clause-only c all h =
    let lt : c.loop-old.old-index < length c.args.kept.now = omega arith in
    let here = beside (ShowsOldKey c.args.history.now) c.args.kept.now all c.loop-old.old-index c.old-item.result lt
    c.old-item.is h in
    c.in-Err.ensures.only here.0 (same_blob _ _ c.as_slice.ensures here.1)

pub loop-old-preserved : goal.loop-old-preserved
loop-old-preserved c =
    let lt : c.loop-old.old-index < length c.args.kept.now = omega arith in
    opened_more (ShowsOldKey c.args.history.now) c.args.kept.now c.loop-old.keys.items _ c.loop-old.old-index
    c.old-item.result c.in-Ok.key lt c.old-item.is
    (same_blob _ _ (sym c.as_slice.ensures) c.in-Ok.ensures.ok) (λ z h.
    c.in-Ok.ensures.only z (same_blob _ _ c.as_slice.ensures h)) c.in_ok-push-in-Ok.ensures.items c.loop-old.invariant

pub returns-clause-only : goal.returns-clause-only
returns-clause-only c all h =
    c.from_vec.ensures ∙ opened_only (ShowsOldKey c.args.history.now) c.args.kept.now c.loop-old.keys.items all
    c.loop-old.old-index (omega arith) c.loop-old.invariant h
