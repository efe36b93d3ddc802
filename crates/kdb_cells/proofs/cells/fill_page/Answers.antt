use Rattle.std.proofs.Common.{◌≡◌, ℕ, length, ap, ◌∙◌, arith}
use Rattle.kdb_cells.specs.Cells.{unit_with}
use Rattle.kdb_cells.proofs.UnitTexts.{lent_whole, length-unit_with}
use Rattle.kdb_cells.proofs.cells.fill_page.Goals as goal

pub returns-clause-bytes : goal.returns-clause-bytes
returns-clause-bytes c =
    let page = c.args.page.now in
    let long : length c.deref_mut.result.now ≡ length page.items = omega (arith, c.deref_mut.ensures.len) in
    let filled = c.fill_unit.ensures ∙ ap (λ (n : ℕ). unit_with n c.args.kind c.args.row.now) long in
    let same = ap length filled ∙ length-unit_with (length page.items) c.args.kind c.args.row.now c.requires.room in
    lent_whole page.len c.fill_unit.new.unit page.items (omega arith) same ∙ filled
