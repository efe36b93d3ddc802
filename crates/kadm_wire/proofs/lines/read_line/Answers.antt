use Rattle.kadm_wire.proofs.LineLaws.{said_of}
use Rattle.kadm_wire.proofs.lines.read_line.Goals as goal

pub returns-clause-read : goal.returns-clause-read
returns-clause-read c = said_of c.args.realm.now c.args.line.now _ c.in_ok-reading.ensures
