use Rattle.std.proofs.Common.{arith}
use Rattle.kdb_cells.proofs.Gathered.{short_unit}
use Rattle.kdb_cells.proofs.scanning.read_or_skip.Goals as goal

pub returns-then-bytes-unit_size-clause-found : goal.returns-then-bytes-unit_size-clause-found
returns-then-bytes-unit_size-clause-found c =
    short_unit c.args.format c.args.skips c.args.bytes.now c.if-skips.false (omega arith)
