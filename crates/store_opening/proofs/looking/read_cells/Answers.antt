use Rattle.kdb_cells.proofs.Gathered.{same_damaged}
use Rattle.store_opening.specs.Looking.{last_read}
use Rattle.store_opening.proofs.Again.{gathered_units}
use Rattle.store_opening.proofs.Looked.{fitting_made, unfit_refused}
use Rattle.store_opening.proofs.looking.read_cells.Goals as goal

pub returns-clause-cells : goal.returns-clause-cells
returns-clause-cells g c =
    let control = c.args.control.now in
    fitting_made g.D.Disk.tells control (last_read control c.args.log.now) c.in-Ok.scanned
    (g.D.Disk.view c.args.disk.now).seen c.in-Ok.ensures.file c.in-Ok.ensures.format
    (c.is_fitting.ensures.given c.if-not-is_fitting.false)
    (λ all units. c.is_fitting.ensures.placed all units c.if-not-is_fitting.false) c.in-Ok.ensures.cells

pub returns-then-not-is_fitting-clause-refused : goal.returns-then-not-is_fitting-clause-refused
returns-then-not-is_fitting-clause-refused g c tells head r is =
    let control = c.args.control.now in
    let s = c.in-Ok.scanned in
    let are = c.in-Ok.ensures.cells in
    unfit_refused (g.D.Disk.view c.args.disk.now).seen control c.args.log.now head r g.D.Disk.tells s are tells
    (c.is_fitting.ensures.unplaced are.cells
    (gathered_units control.format s.cells s.princs.items s.policies.items are.cells are.gathered)
    (are.given tells) c.if-not-is_fitting.true)
    (same_damaged c.last_damaged.result _ r c.last_damaged.ensures.value is)
