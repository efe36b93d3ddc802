use Rattle.std.proofs.Common.{◌≡◌, ℕ, ◌+◌, ◌⊎◌, List, length, Some, None, ap, sym, subst, ◌∙◌}
use Rattle.std.specs.Prelude.{OnOk}
use Rattle.std.proofs.lemmas.Result.{on_ok_weaker}
use Rattle.policy_rules.specs.Rules.{Rules}
use Rattle.princ_record.specs.declared.princs.Princ.{Princ as Principal}
use Rattle.kdb_cells.specs.Cells.{Cell, IsCell}
use Rattle.kdb_cells.specs.Indexes.{units, count}
use Rattle.kdb_cells.specs.Leads.{Units}
use Rattle.kdb_cells.specs.Scanning.{IsGathered}
use Rattle.kdb_cells.specs.Sheets.{set_cell}
use Rattle.kdb_cells.proofs.Gathered.{on_both, gathered_row, gathered_free, led_next}
use Rattle.kdb_cells.proofs.Gathered.{led_placed, row_placed, given_either, with_more}
use Rattle.kdb_cells.proofs.scanning.gather_cell.Goals as goal

pub returns-in-Some-clause-gathered : goal.returns-in-Some-clause-gathered
returns-in-Some-clause-gathered c = λ cells is.
    let e = c.gather_row.ensures in
    let r = c.gather_row.result in
    let old = c.args.gathered.now in
    let new = c.gather_row.new.gathered in
    let row = c.in-Some.row in
    let stored = subst (IsCell c.args.format) c.in-Some.is c.requires.stored in
    subst (λ (x : Cell). OnOk r (IsGathered c.args.format (units new.index)
    (count new.index) new.princs.items new.policies.items (set_cell (length cells) x cells))) (sym c.in-Some.is)
    (on_ok_weaker r
    (λ all. subst (λ (u : Units). IsGathered c.args.format u (count new.index) new.princs.items new.policies.items
    (with_more (Some row) cells)) (sym all.0)
    (gathered_row c.args.format (units old.index) (count old.index) (count new.index) old.princs.items new.princs.items
    old.policies.items new.policies.items row cells
    all.1.1.0 all.1.1.1.1.0 all.1.1.1.0 all.1.0 stored all.1.1.1.1.1.0 all.1.1.1.1.1.1 is))
    (on_both _ _ r e.units (on_both _ _ r e.count
    (on_both _ _ r e.near (on_both _ _ r e.few (on_both _ _ r e.new (on_both _ _ r e.princs e.policies)))))))

pub returns-in-Some-clause-next : goal.returns-in-Some-clause-next
returns-in-Some-clause-next c =
    let old = c.args.gathered.now in
    let new = c.gather_row.new.gathered in
    on_ok_weaker c.gather_row.result (λ led. led_next (units old.index) (units new.index) _ led
    ∙ ap (λ (n : ℕ). n + 1) c.requires.next) c.gather_row.ensures.units

pub returns-in-Some-clause-placed : goal.returns-in-Some-clause-placed
returns-in-Some-clause-placed c =
    let old = c.args.gathered.now in
    let new = c.gather_row.new.gathered in
    on_ok_weaker c.gather_row.result
    (λ led. row_placed c.args.torn c.args.unit c.args.cell c.in-Some.row old.index.placed new.index.placed c.in-Some.is
    c.requires.none c.requires.placed (led_placed (units old.index) (units new.index) _ led))
    c.gather_row.ensures.units

pub returns-in-None-clause-gathered : goal.returns-in-None-clause-gathered
returns-in-None-clause-gathered c = λ cells is.
    let e = c.gather_none.ensures in
    let r = c.gather_none.result in
    let old = c.args.gathered.now in
    let new = c.gather_none.new.gathered in
    subst (λ (x : Cell). OnOk r (IsGathered c.args.format (units new.index)
    (count new.index) new.princs.items new.policies.items (set_cell (length cells) x cells))) (sym c.in-None.is)
    (on_ok_weaker r
    (λ all.
    subst (λ (ps : List Principal). IsGathered c.args.format (units new.index) (count new.index) ps new.policies.items
    (with_more None cells)) (sym e.princs)
    (subst (λ (qs : List Rules). IsGathered c.args.format (units new.index) (count new.index) old.princs.items qs
    (with_more None cells)) (sym e.policies)
    (gathered_free c.args.format (units old.index) (units new.index) (count old.index) (count new.index)
    old.princs.items old.policies.items cells all.0 (all.1.1.0 ∙ ap (λ (n : ℕ). n + 1) (sym c.requires.next)) all.1.0
    (λ i there. subst (λ (n : ℕ). (old.index.placed ≡ Some i) ⊎ (i ≡ n)) (sym c.requires.next)
    (given_either c.args.torn c.args.unit i old.index.placed new.index.placed c.requires.placed all.1.1.1 there)) is)))
    (on_both _ _ r e.of (on_both _ _ r e.count (on_both _ _ r e.next e.placed))))
