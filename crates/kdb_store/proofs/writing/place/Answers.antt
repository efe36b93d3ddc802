use Rattle.kdb_cells.specs.CellFiles.{units}
use Rattle.kdb_store.proofs.Given.{given_for}
use Rattle.kdb_store.proofs.writing.place.Goals as goal

pub returns-clause-given : goal.returns-clause-given
returns-clause-given c = given_for c.place.result c.args.key.now
    (units c.args.cells.now) c.place.ensures.low c.place.ensures.high c.place.ensures.own c.place.ensures.new
