use Rattle.kdb_format.proofs.Formats.{next_found, next_window}
use Rattle.kdb_format.proofs.format.read_next.Goals as goal

pub returns-clause-found : goal.returns-clause-found
returns-clause-found g c = next_found g.met.F.Format.is_field c.args.reader.now c.read_front.new.reader
    c.read_front.result c.holds_bytes.ensures c.read_front.ensures

pub returns-clause-window : goal.returns-clause-window
returns-clause-window g c = next_window g.met.F.Format.is_field c.args.reader.now c.read_front.new.reader
    c.read_front.result c.holds_bytes.ensures c.read_front.ensures
