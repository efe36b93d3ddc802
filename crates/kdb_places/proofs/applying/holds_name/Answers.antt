use Rattle.std.proofs.Common.{sym}
use Rattle.kdb_places.proofs.Judged.{no_name, name_there}
use Rattle.kdb_places.proofs.applying.holds_name.Goals as goal

pub returns-in-Some : goal.returns-in-Some
returns-in-Some c = sym (name_there c.args.name.now c.args.rows.now.princs c.in-Some.field-0.now c.in-Some.ensures.some)

pub returns-in-None : goal.returns-in-None
returns-in-None c = sym (no_name c.args.name.now c.args.rows.now.princs (c.princ.ensures.none c.in-None.is))
