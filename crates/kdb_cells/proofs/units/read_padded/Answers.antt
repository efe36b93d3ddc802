use Rattle.std.proofs.Common.{true, false, sym}
use Rattle.std.proofs.lemmas.Result.{err_from_is_err_and}
use Rattle.kdb_cells.proofs.UnitTexts.{no_cell, cell_found}
use Rattle.kdb_cells.proofs.units.read_padded.Goals as goal

pub returns-in_err-cell : goal.returns-in_err-cell
returns-in_err-cell c =
    let p = err_from_is_err_and c.from_residual.result c.from_residual.ensures.1 in
    rw (p.1, p.2)
    (no_cell c.in_err-cell.field-0.0 c.args.format c.args.reader.now c.requires.long c.in_err-cell.ensures)

pub returns-then-not-is_zero : goal.returns-then-not-is_zero
returns-then-not-is_zero c = cell_found c.args.format c.args.reader.now c.read_cell.new.reader c.rest.result.now
    c.in_ok-cell.cell false c.requires.long c.in_ok-cell.ensures c.rest.ensures (sym c.if-not-is_zero.ensures)

pub returns : goal.returns
returns c = cell_found c.args.format c.args.reader.now c.read_cell.new.reader c.rest.result.now c.in_ok-cell.cell true
    c.requires.long c.in_ok-cell.ensures c.rest.ensures (sym c.if-not-is_zero.ensures)
