use Rattle.std.proofs.Common.{◌≡◌, ◌+◌, List, [], ◌∷◌, ◌++◌, map, take, drop, get_or, ap, sym, subst, ◌∙◌, arith}
use Rattle.kdb_cells.specs.Cells.{Cell}
use Rattle.cell_files.specs.declared.texts.RowText.{RowText}
use Rattle.cell_files.specs.Building.{text_of, MayFollow, IsBuilt}
use Rattle.cell_files.specs.NewFiles.{with_row}
use Rattle.cell_files.proofs.Following.{follow_next, left_next, done_next, none_done, all_done}
use Rattle.cell_files.proofs.building.add_rows.Goals as goal

pub loop-item-init : goal.loop-item-init
loop-item-init g c =
    let row = g.T.UnitRow.row_of in
    let xs = c.args.items.now in
    record {
      built = λ cells built may.
          subst (IsBuilt c.args.format c.args.building.now.index) (none_done row xs with_row cells) built;
      follow = λ cells may. subst (MayFollow c.args.format (map row xs)) (none_done row xs with_row cells) may;
      texts = none_done row xs text_of c.args.building.now.texts.items;
      placed = c.requires.placed;
    }

pub add_row-requires-clause-fits : goal.add_row-requires-clause-fits
add_row-requires-clause-fits g c = subst g.T.UnitRow.fits (sym (c.get.ensures ∙ c.item-item.is))
    (c.requires.fits c.loop-item.item-index c.item-item.result c.loop-item-test.true)

pub add_row-requires-clause-next : goal.add_row-requires-clause-next
add_row-requires-clause-next g c =
    let row = g.T.UnitRow.row_of in
    let xs = c.args.items.now in
    let i = c.loop-item.item-index in
    let x = c.get.result.now in
    let is = subst (λ y. y ≡ get_or xs i y) (sym c.get.ensures) c.item-item.is in
    let from = c.requires.next in
    let cells = from.0 ++ map with_row (map row (take i xs)) in (
      cells,
      (
        c.loop-item.invariant.built from.0 from.1.0 from.1.1,
        (follow_next c.args.format (row x) (map row (drop (i + 1) xs)) (map row (drop i xs)) cells
            (left_next row xs i x c.loop-item-test.true is) (c.loop-item.invariant.follow from.0 from.1.1)).0,
      ),
    )

pub loop-item-preserved : goal.loop-item-preserved
loop-item-preserved g c =
    let row = g.T.UnitRow.row_of in
    let xs = c.args.items.now in
    let i = c.loop-item.item-index in
    let x = c.get.result.now in
    let lt = c.loop-item-test.true in
    let is = subst (λ y. y ≡ get_or xs i y) (sym c.get.ensures) c.item-item.is in
    let inv = c.loop-item.invariant in
    let done : List Cell → List Cell = λ cells. cells ++ map with_row (map row (take i xs)) in
    record {
      built = λ cells built may.
          let next = follow_next c.args.format (row x) (map row (drop (i + 1) xs)) (map row (drop i xs)) (done cells)
          (left_next row xs i x lt is) (inv.follow cells may) in
          subst (IsBuilt c.args.format c.add_row.new.building.index) (done_next row xs with_row cells i x lt is)
          (c.in_ok-add_row.ensures.built (done cells) (inv.built cells built may) next.0);
      follow = λ cells may.
          let next = follow_next c.args.format (row x) (map row (drop (i + 1) xs)) (map row (drop i xs)) (done cells)
          (left_next row xs i x lt is) (inv.follow cells may) in
          subst (MayFollow c.args.format (map row (drop (i + 1) xs)))
          (done_next row xs with_row cells i x lt is) next.1;
      texts = c.in_ok-add_row.ensures.texts ∙ ap (λ (l : List RowText). l ++ text_of (row x) ∷ []) inv.texts
          ∙ done_next row xs text_of c.args.building.now.texts.items i x lt is;
      placed = c.in_ok-add_row.ensures.placed;
    }

pub returns-clause-built : goal.returns-clause-built
returns-clause-built g c = λ cells built may.
    let row = g.T.UnitRow.row_of in
    subst (IsBuilt c.args.format c.loop-item.building.index)
    (all_done row c.args.items.now with_row cells c.loop-item.item-index (omega arith))
    (c.loop-item.invariant.built cells built may)

pub returns-clause-texts : goal.returns-clause-texts
returns-clause-texts g c = c.loop-item.invariant.texts ∙ all_done g.T.UnitRow.row_of c.args.items.now text_of
    c.args.building.now.texts.items c.loop-item.item-index (omega arith)
