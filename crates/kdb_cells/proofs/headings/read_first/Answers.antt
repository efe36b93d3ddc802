use Rattle.std.proofs.Common.{arith}
use Rattle.kdb_cells.proofs.Headed.{short_heading}
use Rattle.kdb_cells.proofs.headings.read_first.Goals as goal

pub returns-then-unit-unit_size : goal.returns-then-unit-unit_size
returns-then-unit-unit_size c = short_heading c.args.format c.args.unit.now (omega arith)
