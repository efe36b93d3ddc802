use Rattle.std.proofs.Common.{Option, true, false, sym, ap, subst, ◌∙◌}
use Rattle.princ_rows.specs.declared.entries.Entry.{Entry}
use Rattle.princ_rows.specs.declared.entries.Op.{Op}
use Rattle.update_log.specs.Logs.{marker_of}
use Rattle.kdb_cells.specs.Cells.{IsCell}
use Rattle.store_files.specs.Found.{left_by}
use Rattle.store_opening.proofs.Again.{last_fits}
use Rattle.store_opening.proofs.Looked.{placed_same}
use Rattle.store_opening.proofs.looking.is_fitting.Goals as goal

pub returns-clause-given : goal.returns-clause-given
returns-clause-given c is = c.is_given.ensures.yes c.if-not-is_given.false ∙ c.last_unit-unit.ensures

pub returns-clause-placed : goal.returns-clause-placed
returns-clause-placed c all units is =
    let control = c.args.control.now in
    placed_same c.last_unit-unit.result _ c.last.result.now.op _ all c.is_placed.result true c.last_unit-unit.ensures
    (ap (λ (e : Entry). e.op) (c.last.ensures (marker_of control.base)))
    (c.is_placed.ensures control.format all units
    (subst (λ (o : Option Op). IsCell c.args.control.now.format (left_by o))
    (sym (ap (λ (e : Entry). e.op) (c.last.ensures (marker_of c.args.control.now.base))))
    (last_fits c.args.control.now c.args.log.now c.requires.headed))) is

pub returns-clause-unplaced : goal.returns-clause-unplaced
returns-clause-unplaced c all units given is =
    let control = c.args.control.now in
    placed_same c.last_unit-unit.result _ c.last.result.now.op _ all c.is_placed.result false c.last_unit-unit.ensures
    (ap (λ (e : Entry). e.op) (c.last.ensures (marker_of control.base)))
    (c.is_placed.ensures control.format all units
    (subst (λ (o : Option Op). IsCell c.args.control.now.format (left_by o))
    (sym (ap (λ (e : Entry). e.op) (c.last.ensures (marker_of c.args.control.now.base))))
    (last_fits c.args.control.now c.args.log.now c.requires.headed))) is

pub returns-then-not-is_given-clause-unplaced : goal.returns-then-not-is_given-clause-unplaced
returns-then-not-is_given-clause-unplaced c all units given is =
    absurd (c.is_given.ensures.no c.if-not-is_given.true (given ∙ sym c.last_unit-unit.ensures))
