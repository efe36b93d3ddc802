use Rattle.std.proofs.Common.{◌≡◌, ℕ, ◌+◌, ◌-◌, length, take, drop, ap, ◌∙◌, arith, length-take, length-drop}
use Rattle.kdb_disk.proofs.Puts.{mid_put}
use Rattle.kdb_cells.specs.Cells.{unit_with}
use Rattle.kdb_cells.proofs.UnitTexts.{length-unit_with}
use Rattle.cell_files.proofs.pages.fill_at.Goals as goal

pub returns : goal.returns
returns c =
    let at = c.args.at in
    let unit = c.args.unit in
    let kind = c.args.text.now.kind in
    let row = c.args.text.now.row in
    let page = c.args.page.now in
    let part = take (at + unit - at) (drop at page) in
    let long : length part ≡ unit =
    omega (arith, length-take (at + unit - at) (drop at page), length-drop at page, c.requires.within) in
    mid_put at _ page c.fill_unit.new.unit (unit_with unit kind row)
    (c.fill_unit.ensures ∙ ap (λ (n : ℕ). unit_with n kind c.as_slice.result.now) long
    ∙ ap (unit_with unit kind) c.as_slice.ensures)
    (omega (arith, length-unit_with unit kind row c.requires.fits.room))
