use Rattle.std.proofs.Common.{ℕ, List, length, ap, arith}
use Rattle.kdb_cells.proofs.UnitPuts.{some_unit}
use Rattle.cell_files.proofs.NewSheets.{unit_most}
use Rattle.cell_files.proofs.new_file.NewFile.write.Goals as goal

pub write_file-requires-clause-some : goal.write_file-requires-clause-some
write_file-requires-clause-some g c = omega (
  arith,
  ap (λ (l : List ℕ). length l) c.deref.ensures.value,
  c.self.invariant.1.first_long,
  some_unit c.self.inside.cells.format,
)

pub write_file-requires-clause-small : goal.write_file-requires-clause-small
write_file-requires-clause-small g c = omega (
  arith,
  ap (λ (l : List ℕ). length l) c.deref.ensures.value,
  c.self.invariant.1.first_long,
  unit_most c.self.inside.cells.format,
)
