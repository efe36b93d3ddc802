use Rattle.std.proofs.Common.{arith, subst}
use Rattle.kdb_format.specs.Answers.{Finds}
use Rattle.kdb_cells.specs.Cells.{cell_of}
use Rattle.kdb_cells.proofs.UnitTexts.{unit_found, unit_only}
use Rattle.kdb_cells.proofs.units.read_unit.Goals as goal

pub returns-clause-found : goal.returns-clause-found
returns-clause-found c =
    let finds =
    subst (λ b. Finds c.read_padded.result (cell_of c.args.format b)) c.new-reader.ensures c.read_padded.ensures in
    unit_found c.args.format c.args.unit.now c.read_padded.result
    (λ i. omega (arith, c.type_inv.unit i)) c.requires.long finds

pub returns-clause-only : goal.returns-clause-only
returns-clause-only c =
    let finds =
    subst (λ b. Finds c.read_padded.result (cell_of c.args.format b)) c.new-reader.ensures c.read_padded.ensures in
    unit_only c.args.format c.args.unit.now c.read_padded.result finds
