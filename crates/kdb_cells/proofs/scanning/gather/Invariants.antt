use Rattle.std.proofs.Common.{◌≡◌, ◌≤◌, ◌*◌, drop}
use Rattle.kdb_disk.specs.Moments.{Keeps}
use Rattle.kdb_disk.specs.Reader.{left_of, IsOver}
use Rattle.kdb_cells.specs.Cells.{unit_size}
use Rattle.kdb_cells.specs.Indexes.{units, count}
use Rattle.kdb_cells.specs.Scanning.{placed_at, AreGathered}
use Rattle.kdb_cells.proofs.scanning.gather.Given as goal

abbrev pub invariant-loop-unit : goal.invariant-loop-unit
invariant-loop-unit g l = record {
  gathered : AreGathered l.format l.torn g.D.Disk.tells ((g.D.Disk.view l.fn.disk).seen l.file) (units l.gathered.index)
      (count l.gathered.index) l.gathered.princs.items l.gathered.policies.items l.unit;
  next : l.gathered.index.next ≡ l.unit;
  placed : l.gathered.index.placed ≡ placed_at l.torn l.unit;
  left : g.D.Disk.tells → left_of l.reader (g.D.Disk.view l.disk).seen
      ≡ drop (l.unit * unit_size l.format) ((g.D.Disk.view l.fn.disk).seen l.file);
  over : g.D.Disk.tells → IsOver l.reader (g.D.Disk.view l.disk).seen;
  keeps : g.D.Disk.tells → Keeps (g.D.Disk.view l.fn.disk) (g.D.Disk.view l.disk);
  same : g.D.Disk.loans l.disk ≡ g.D.Disk.loans l.fn.disk;
  faults : g.D.Disk.faults l.fn.disk ≤ g.D.Disk.faults l.disk;
}
