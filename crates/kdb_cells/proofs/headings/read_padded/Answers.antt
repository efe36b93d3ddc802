use Rattle.std.proofs.Common.{true, false, sym}
use Rattle.std.proofs.lemmas.Result.{err_from_is_err_and}
use Rattle.kdb_cells.proofs.Headed.{no_heading, heading_found}
use Rattle.kdb_cells.proofs.headings.read_padded.Goals as goal

pub returns-in_err-realm : goal.returns-in_err-realm
returns-in_err-realm c =
    let p = err_from_is_err_and c.from_residual.result c.from_residual.ensures.1 in
    rw (p.1, p.2)
    (no_heading c.in_err-realm.field-0.0 c.args.format c.args.reader.now c.requires.long c.in_err-realm.ensures)

pub returns-then-not-is_zero : goal.returns-then-not-is_zero
returns-then-not-is_zero c = heading_found c.args.format c.args.reader.now c.read_heading.new.reader c.rest.result.now
    c.in_ok-realm.realm false c.requires.long c.in_ok-realm.ensures c.rest.ensures (sym c.if-not-is_zero.ensures)

pub returns : goal.returns
returns c = heading_found c.args.format c.args.reader.now c.read_heading.new.reader c.rest.result.now
    c.in_ok-realm.realm true c.requires.long c.in_ok-realm.ensures c.rest.ensures (sym c.if-not-is_zero.ensures)
