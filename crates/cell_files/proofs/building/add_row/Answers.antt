use Rattle.std.proofs.Common.{◌≡◌, ℕ, List, ap, ◌∙◌}
use Rattle.kdb_cells.specs.Cells.{name_of}
use Rattle.kdb_cells.specs.Indexes.{unit_of, units}
use Rattle.kdb_cells.specs.Leads.{more_led}
use Rattle.kdb_cells.proofs.Gathered.{led_placed}
use Rattle.cell_files.proofs.Following.{none_led, built_more}
use Rattle.cell_files.proofs.building.add_row.Goals as goal

pub add_led-requires-clause-new : goal.add_led-requires-clause-new
add_led-requires-clause-new g c =
    let x = c.args.building.now.index in
    let from = c.requires.next in
    ap (unit_of x.entries) (c.in_ok-key.ensures ∙ c.unit_key.ensures)
    ∙ none_led (units x) from.0 (name_of (g.T.UnitRow.row_of c.args.item.now)) from.1.0.cells_are from.1.1.new

pub returns-clause-built : goal.returns-clause-built
returns-clause-built g c = λ cells built next.
    let x = c.args.building.now.index in
    let is : c.in_ok-key.key ≡ name_of (g.T.UnitRow.row_of c.args.item.now) =
    c.in_ok-key.ensures ∙ c.unit_key.ensures in
    built_more c.args.format x c.add_led.new.self cells (g.T.UnitRow.row_of c.args.item.now) built next
    (c.in_ok-add_led.ensures.units ∙ ap (λ (k : List ℕ). more_led k (units x)) is) c.in_ok-add_led.ensures.count

pub returns-clause-placed : goal.returns-clause-placed
returns-clause-placed g c = led_placed (units c.args.building.now.index)
    (units c.add_led.new.self) c.in_ok-key.key c.in_ok-add_led.ensures.units ∙ c.requires.placed
