use Rattle.std.proofs.Common.{ap}
use Rattle.kdb_cells.specs.declared.units.StoredRow.TheVariants.{Princ, Policy}
use Rattle.kdb_cells.specs.Changes.{cell_after}
use Rattle.store_opening.proofs.Placing.{placed_op}
use Rattle.store_opening.proofs.redoing.may_stand.Goals as goal

pub returns-in-PutPrinc : goal.returns-in-PutPrinc
returns-in-PutPrinc c = λ format all are fits.
    placed_op format c.args.cells.now all c.args.unit
    (cell_after c.args.op.now) (Princ c.in-PutPrinc.princ) c.as_slice.result.now c.has_place.result
    (ap cell_after c.in-PutPrinc.is) c.as_slice.ensures are fits c.has_place.ensures.yes c.has_place.ensures.no

pub returns-in-Rename : goal.returns-in-Rename
returns-in-Rename c = λ format all are fits.
    placed_op format c.args.cells.now all c.args.unit
    (cell_after c.args.op.now) (Princ c.in-Rename.princ) c.as_slice-in-Rename.result.now c.has_place-in-Rename.result
    (ap cell_after c.in-Rename.is) c.as_slice-in-Rename.ensures are fits
    c.has_place-in-Rename.ensures.yes c.has_place-in-Rename.ensures.no

pub returns-in-PutPolicy : goal.returns-in-PutPolicy
returns-in-PutPolicy c = λ format all are fits.
    placed_op format c.args.cells.now all c.args.unit (cell_after c.args.op.now) (Policy c.in-PutPolicy.policy)
    c.name.result.now c.has_place-in-PutPolicy.result (ap cell_after c.in-PutPolicy.is) c.name.ensures.value are fits
    c.has_place-in-PutPolicy.ensures.yes c.has_place-in-PutPolicy.ensures.no
