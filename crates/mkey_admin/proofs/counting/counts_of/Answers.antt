use Rattle.std.proofs.Common.{◌≡◌, List, ◌<◌, ap, get_or, length, map, subst, sym, ◌∙◌}
use Rattle.kdb_base.specs.declared.versions.Master.{Master}
use Rattle.mkey_admin.proofs.Counts.{none_counted, row_counted}
use Rattle.mkey_admin.specs.Counting.{recorded}
use Rattle.princ_record.specs.declared.princs.Princ.{Princ}
use Rattle.mkey_admin.proofs.counting.counts_of.Goals as goal

pub loop-row-init : goal.loop-row-init
loop-row-init c = c.in_ok-counts.ensures ∙ ap (map (λ _. 0)) c.as_slice-masters.ensures.value
    ∙ none_counted c.args.given.now.realm.now c.args.given.now.masters.now

pub loop-row-preserved : goal.loop-row-preserved
loop-row-preserved c =
    let g = c.args.given.now in
    let i = c.loop-row.row-index in
    let p = c.get.result.now in
    let same : c.princs-row-items.result.now ≡ g.rows.now.princs = c.princs-row-items.ensures.value in
    let is : p ≡ get_or g.rows.now.princs i p =
    c.get.ensures ∙ c.row-item.is ∙ ap (λ (ps : List Princ). get_or ps i c.row-item.result) same
    ∙ ap (λ (d : Princ). get_or g.rows.now.princs i d) (sym c.get.ensures) in
    let lt : i < length g.rows.now.princs = subst (λ (ps : List Princ). i < length ps) same c.loop-row-test.true in
    row_counted g.realm.now g.rows.now.princs g.masters.now c.loop-row.counts.items c.note_record.new.counts.items i p
    lt is c.loop-row.invariant
    (c.note_record.ensures
    ∙ ap (λ (ms : List Master). recorded g.realm.now p ms c.loop-row.counts.items) c.as_slice-masters.ensures.value)
