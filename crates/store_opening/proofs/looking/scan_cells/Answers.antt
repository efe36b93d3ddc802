use Rattle.std.proofs.Common.{◌≡◌, ◌≤◌, sym, subst}
use Rattle.std.specs.Prelude.{IfOk}
use Rattle.kdb_control.specs.Choice.{Choice}
use Rattle.kdb_disk.specs.Files.{Files}
use Rattle.kdb_disk.proofs.Runs.{keeps_then}
use Rattle.update_log.specs.Logs.{marker_of}
use Rattle.kdb_cells.specs.Scanning.{IsDamaged, AreScanned, MaySkip}
use Rattle.kdb_cells.specs.Sheets.{count_of}
use Rattle.kdb_cells.proofs.Gathered.{same_damaged}
use Rattle.store_opening.specs.Looking.{last_read}
use Rattle.store_opening.proofs.Looked.{torn_low, may_skip, within_from, far_from, scan_made, far_refused, scan_refused}
use Rattle.store_opening.proofs.looking.scan_cells.Goals as goal

pub returns-then-not-within-clause-refused : goal.returns-then-not-within-clause-refused
returns-then-not-within-clause-refused g c tells head r is =
    let control = c.args.control.now in
    let last = last_read control c.args.log.now in
    far_refused (g.D.Disk.view c.args.disk.now).seen control c.args.log.now head r
    (far_from c.last_cell.result last.cell _ c.in-Ok.within (c.last_cell.ensures (marker_of control.base))
    (c.in-Ok.ensures.value tells) c.if-not-within.true)
    (same_damaged c.last_damaged.result _ r c.last_damaged.ensures.value is)

pub scan-requires-clause-low : goal.scan-requires-clause-low
scan-requires-clause-low g c =
    torn_low c.last_unit.result (last_read c.args.control.now c.args.log.now) c.last_unit.ensures

pub scan-requires-clause-torn : goal.scan-requires-clause-torn
scan-requires-clause-torn g c tells =
    let control = c.args.control.now in
    let last = last_read control c.args.log.now in
    let keeps = c.may_have_unit.ensures.keeps tells in
    subst (λ (k : Choice). MaySkip k.format c.last_unit.result ((g.D.Disk.view c.may_have_unit.new.disk).seen k.image))
    (sym c.control.view_is)
    (may_skip control.format c.last_unit.result last ((g.D.Disk.view c.may_have_unit.new.disk).seen control.image)
    c.last_unit.ensures
    (subst (λ (files : Files). last.cell ≤ count_of control.format (files control.image)) (sym keeps.seen)
    (within_from c.last_cell.result last.cell _ c.in-Ok.within (c.last_cell.ensures (marker_of c.args.control.now.base))
    (c.in-Ok.ensures.value tells) c.if-not-within.false)))

pub returns-clause-cells : goal.returns-clause-cells
returns-clause-cells g c =
    let control = c.args.control.now in
    let last = last_read control c.args.log.now in
    let mid = (g.D.Disk.view c.may_have_unit.new.disk).seen in
    scan_made g.D.Disk.tells control last c.scan.result c.last_unit.result
    (g.D.Disk.view c.args.disk.now).seen mid c.last_unit.ensures (λ tells. (c.may_have_unit.ensures.keeps tells).seen)
    (λ tells. (within_from c.last_cell.result last.cell _ c.in-Ok.within
    (c.last_cell.ensures (marker_of c.args.control.now.base)) (c.in-Ok.ensures.value tells) c.if-not-within.false))
    (subst (λ (k : Choice). IfOk c.scan.result (λ s. s.cells.format ≡ k.format)) c.control.view_is
    c.scan.ensures.format)
    (subst (λ (k : Choice). IfOk c.scan.result
    (λ s. AreScanned g.D.Disk.tells s.cells s.realm s.princs.items s.policies.items c.last_unit.result (mid k.image)))
    c.control.view_is c.scan.ensures.gathered)

pub returns-clause-refused : goal.returns-clause-refused
returns-clause-refused g c tells head r is =
    let control = c.args.control.now in
    let last = last_read control c.args.log.now in
    let mid = (g.D.Disk.view c.may_have_unit.new.disk).seen in
    scan_refused (g.D.Disk.view c.args.disk.now).seen control c.args.log.now head r
    c.last_unit.result c.last_unit.ensures (within_from c.last_cell.result last.cell _ c.in-Ok.within
    (c.last_cell.ensures (marker_of c.args.control.now.base)) (c.in-Ok.ensures.value tells) c.if-not-within.false)
    (subst (λ (files : Files). IsDamaged control.image control.format c.last_unit.result (files control.image) r)
    (c.may_have_unit.ensures.keeps tells).seen
    (subst (λ (k : Choice). IsDamaged k.image k.format c.last_unit.result (mid k.image) r) c.control.view_is
    (c.scan.ensures.refused tells r is)))

pub returns-clause-keeps : goal.returns-clause-keeps
returns-clause-keeps g c tells = keeps_then (c.may_have_unit.ensures.keeps tells) (c.scan.ensures.keeps tells)
