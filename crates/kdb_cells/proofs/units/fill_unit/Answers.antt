use Rattle.std.proofs.Common.{length}
use Rattle.kdb_cells.proofs.UnitTexts.{filled}
use Rattle.kdb_cells.proofs.units.fill_unit.Goals as goal

pub returns : goal.returns
returns c = filled (length c.args.unit.now) c.args.kind c.args.row.now c.clear_unit.new.unit c.put_u8.new.out
    c.put_u16.new.out c.put_bytes.new.out c.clear_unit.ensures c.put_u8.ensures c.put_u16.ensures c.put_bytes.ensures
