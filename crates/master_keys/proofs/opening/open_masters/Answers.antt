use Rattle.std.proofs.Common.{◌<◌, List, ◌++◌, ◌∷◌, [], length, get_or, ap, sym, ◌∙◌, arith}
use Rattle.std.proofs.lemmas.List.{take_more, take_all}
use Rattle.kdb_base.specs.declared.versions.Master.{Master}
use Rattle.master_keys.specs.Chain.{IsKeyOf}
use Rattle.master_keys.proofs.Chains.{no_master}
use Rattle.master_keys.proofs.Errors.{handed_on}
use Rattle.master_keys.proofs.SideBySide.{zip_length, zip_at_item, zip_more}
use Rattle.master_keys.proofs.opening.open_masters.Goals as goal

pub returns-in_err-master-clause-only : goal.returns-in_err-master-clause-only
returns-in_err-master-clause-only c all h =
    let lt : c.loop-item.item-index < length c.args.keys.now = omega arith in
    let here = zip_at_item (IsKeyOf c.args.newest.now) c.args.keys.now all c.loop-item.item-index c.item-item.result
    no_master h lt c.item-item.is in
    handed_on c.from_residual.result _ _ c.from_residual.ensures.1 (c.in_err-master.ensures.only _ here)

pub loop-item-preserved : goal.loop-item-preserved
loop-item-preserved c =
    let lt : c.loop-item.item-index < length c.args.keys.now = omega arith in
    let pushed = c.in_ok-push.ensures.items in
    record {
      ok = rw pushed (zip_more (IsKeyOf c.args.newest.now) c.args.keys.now c.loop-item.masters.items
          c.loop-item.item-index c.item-item.result c.in_ok-master.master lt c.item-item.is c.loop-item.invariant.ok
          c.in_ok-master.ensures.ok);
      only = λ all h.
          let here = zip_at_item (IsKeyOf c.args.newest.now) c.args.keys.now all c.loop-item.item-index
          c.item-item.result no_master h lt c.item-item.is in
          let same = c.in_ok-master.ensures.only (get_or all c.loop-item.item-index no_master) here in
          let len = zip_length (IsKeyOf c.args.newest.now) c.args.keys.now all h in
          let before = c.loop-item.invariant.only all h in
          take_more all c.loop-item.item-index no_master (omega arith)
          ∙ ap (λ (front : List Master). front ++ get_or all c.loop-item.item-index no_master ∷ []) before
          ∙ ap (λ (m : Master). c.loop-item.masters.items ++ m ∷ []) (sym same)
          ∙ sym pushed;
    }

pub returns-clause-only : goal.returns-clause-only
returns-clause-only c all h =
    let len = zip_length (IsKeyOf c.args.newest.now) c.args.keys.now all h in
    sym (c.loop-item.invariant.only all h) ∙ take_all c.loop-item.item-index all (omega arith)
