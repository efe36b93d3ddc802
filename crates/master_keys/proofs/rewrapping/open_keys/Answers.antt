use Rattle.std.proofs.Common.{◌<◌, List, ◌++◌, ◌∷◌, [], length, get_or, ap, sym, ◌∙◌, arith}
use Rattle.std.proofs.lemmas.List.{take_more, take_all}
use Rattle.kdb_base.specs.Key.{Key}
use Rattle.master_keys.specs.Rewrapping.{Holds}
use Rattle.master_keys.proofs.Chains.{no_key, same_blob}
use Rattle.master_keys.proofs.SideBySide.{zip_length, zip_at_item, zip_more}
use Rattle.master_keys.proofs.rewrapping.open_keys.Goals as goal

pub returns-in-Err-clause-only : goal.returns-in-Err-clause-only
returns-in-Err-clause-only c all h =
    let here = zip_at_item (Holds c.args.master.now) c.args.items.now all c.loop-item.item-index c.item-item.result
    no_key h (omega arith) c.item-item.is in
    c.in-Err.ensures.only _ (same_blob _ _ c.as_slice.ensures here)

pub returns-in-Err-clause-wrong : goal.returns-in-Err-clause-wrong
returns-in-Err-clause-wrong c e = (
  c.loop-item.item-index,
  c.item-item.result,
  omega arith,
  sym c.item-item.is,
  λ key h. let memory = c.in-Err.ensures.only key (same_blob _ _ c.as_slice.ensures h) in absurd cc,
)

pub loop-item-preserved : goal.loop-item-preserved
loop-item-preserved c =
    let lt : c.loop-item.item-index < length c.args.items.now = omega arith in
    let pushed = c.in_ok-push-in-Ok.ensures.items in
    record {
      ok = rw pushed
          (zip_more (Holds c.args.master.now) c.args.items.now c.loop-item.keys.items
          c.loop-item.item-index c.item-item.result c.in-Ok.key lt c.item-item.is c.loop-item.invariant.ok
          (same_blob _ _ (sym c.as_slice.ensures) c.in-Ok.ensures.ok));
      only = λ all h.
          let here = zip_at_item (Holds c.args.master.now) c.args.items.now all c.loop-item.item-index
          c.item-item.result no_key h lt c.item-item.is in
          let same =
          c.in-Ok.ensures.only (get_or all c.loop-item.item-index no_key) (same_blob _ _ c.as_slice.ensures here) in
          let len = zip_length (Holds c.args.master.now) c.args.items.now all h in
          let before = c.loop-item.invariant.only all h in
          take_more all c.loop-item.item-index no_key (omega arith)
          ∙ ap (λ (front : List Key). front ++ get_or all c.loop-item.item-index no_key ∷ []) before
          ∙ ap (λ (k : Key). c.loop-item.keys.items ++ k ∷ []) (sym same)
          ∙ sym pushed;
    }

pub returns-clause-only : goal.returns-clause-only
returns-clause-only c all h =
    let len = zip_length (Holds c.args.master.now) c.args.items.now all h in
    sym (c.loop-item.invariant.only all h) ∙ take_all c.loop-item.item-index all (omega arith)
